-- The verdicts on the logs of both ends of each connection, by the events of a capture.
use Rattle.std.specs.Prelude.{◌≡◌, ℕ, ◌||◌, max, Bool, true, false, if◌then◌else◌, List, [], ◌∷◌, ◌++◌, Option, Some, None}
use Rattle.std.specs.Option.{option_map}
use Rattle.hsms_machine.specs.Settings.{Parameters}
use Rattle.hsms_machine.specs.declared.entry.Event.{Event as LogEvent}
use Rattle.hsms_machine.specs.declared.entry.Event.TheVariants as entry_event
use Rattle.hsms_log.specs.declared.verdict.Verdict.{Verdict}
use Rattle.hsms_log.specs.declared.verdict.Verdict.TheVariants.{Pass, Fail}
use Rattle.capture_tcp.specs.declared.packet.Side.{Side}
use Rattle.capture_tcp.specs.declared.packet.Side.TheVariants.{Active, Passive}
use Rattle.capture_log.specs.AuditedLog.{Note, SaysOf}
use Rattle.capture_log.specs.BothLogs.{event_of}
use Rattle.capture_log.specs.contracts.socket_pair.PairPartialEq.TheImpl as same_pair
use Rattle.capture_log.specs.declared.audited_log.LogVerdict.{LogVerdict}
use Rattle.capture_log.specs.declared.socket_pair.Pair.{Pair}
use Rattle.capture_events.specs.declared.log_item.LogItem.{LogItem}
use Rattle.capture_events.specs.declared.log_item.EntryKind.{EntryKind}
use Rattle.capture_events.specs.declared.log_item.EntryKind.TheVariants.{Up, Message, Down}
use Rattle.capture_events.specs.declared.incomplete.Shortfall.{Shortfall}
use Rattle.capture_events.specs.ConnectionItems.{is_there}
use Rattle.capture_verdicts.specs.declared.skipped_packets.SkippedPackets.{SkippedPackets}
use Rattle.capture_events.specs.declared.event.Event.{Event}
use Rattle.capture_events.specs.declared.event.Event.TheVariants.{Logged, Ended, Incomplete, Skipped}
use Rattle.capture_verdicts.specs.SkippedPackets.{skipped_after}
use Rattle.capture_verdicts.specs.VerdictLine.{end_line_of}

-- ---- the log of an endpoint

abbrev pub event_at : Side → EntryKind → LogEvent
event_at side (Up packet) = entry_event.Up
event_at side (Message from frame) = event_of side from frame
event_at side Down = entry_event.Down

-- No entry is earlier than the entry before.
abbrev pub note_at : Side → ℕ → LogItem → Note
note_at side before item = record {
  remark = item.comment;
  entry = option_map (λ kind. record { time = max before item.time; event = event_at side kind }) item.kind;
}

unfoldable pub notes : Side → ℕ → List LogItem → List Note
notes side before [] = []
notes side before (item ∷ items) = note_at side before item ∷ notes side (max before item.time) items

-- ---- verdicts

abbrev pub same : Pair → Pair → Bool
same one other = (same_pair.ghosts).eq one other

-- The items of the pair's connection: all since the end of the pair's connection before.
abbrev pub and_event : Pair → Event → List LogItem → List LogItem
and_event pair (Logged p item) before = if same p pair then before ++ item ∷ [] else before
and_event pair (Ended p shortfall) before = if same p pair then [] else before
and_event pair (Incomplete shortfall) before = before
and_event pair (Skipped reason) before = before

unfoldable pub log_of : Pair → List LogItem → List Event → List LogItem
log_of pair before [] = before
log_of pair before (e ∷ es) = log_of pair (and_event pair e before) es

-- What the lines of a connection show: what is missing of it, and the verdict on the log of each endpoint, if it has items.
pub record PairVerdicts : Type 0 where
  pub pair : Pair
  pub shortfall : Option Shortfall
  pub active : Option LogVerdict
  pub passive : Option LogVerdict

abbrev pub HasVerdict : Bool → Parameters → Side → List LogItem → Option LogVerdict → Type 0
HasVerdict false settings side items verdict = verdict ≡ None
HasVerdict true settings side items verdict = (says : LogVerdict) × (verdict ≡ Some says) × SaysOf settings (notes side 0 items) says

pub record AreVerdicts (a p : Parameters) (pair : Pair) (shortfall : Option Shortfall) (items : List LogItem) (t : PairVerdicts) : Type 0 where
  pub pair_is : t.pair ≡ pair
  pub shortfall_is : t.shortfall ≡ shortfall
  pub active_is : HasVerdict (is_there items) a Active items t.active
  pub passive_is : HasVerdict (is_there items) p Passive items t.passive

-- One at the end of each connection.
abbrev pub VerdictsAt : Parameters → Parameters → List Event → Event → List PairVerdicts → Type 0
VerdictsAt a p before (Ended pair shortfall) ts = (t : PairVerdicts) × (ts ≡ t ∷ []) × AreVerdicts a p pair shortfall (log_of pair [] before) t
VerdictsAt a p before (Logged pair item) ts = ts ≡ []
VerdictsAt a p before (Incomplete shortfall) ts = ts ≡ []
VerdictsAt a p before (Skipped reason) ts = ts ≡ []

unfoldable pub AllVerdicts : Parameters → Parameters → List Event → List Event → List PairVerdicts → Type 0
AllVerdicts a p before [] ts = ts ≡ []
AllVerdicts a p before (e ∷ es) ts =
    (first rest : List PairVerdicts) × (ts ≡ first ++ rest) × VerdictsAt a p before e first × AllVerdicts a p (before ++ e ∷ []) es rest

abbrev pub verdict_lines : Parameters → Parameters → PairVerdicts → List ℕ
verdict_lines a p t = end_line_of t.pair a.role Active t.shortfall t.active ++ end_line_of t.pair p.role Passive t.shortfall t.passive

-- ---- the result

abbrev pub fails_verdict : Verdict → Bool
fails_verdict (Pass summary) = false
fails_verdict (Fail line why) = true

abbrev pub fails_log : Option LogVerdict → Bool
fails_log None = false
fails_log (Some verdict) = fails_verdict verdict.verdict

-- True if a log fails.
abbrev pub fails : List PairVerdicts → Bool
fails [] = false
fails (t ∷ ts) = (fails_log t.active || fails_log t.passive) || fails ts

-- What was missing first.
abbrev pub shortfall_or : Option Shortfall → Option Shortfall → Option Shortfall
shortfall_or None later = later
shortfall_or (Some shortfall) later = Some shortfall

abbrev pub shortfall_in : Event → Option Shortfall
shortfall_in (Ended pair shortfall) = shortfall
shortfall_in (Incomplete shortfall) = Some shortfall
shortfall_in (Logged pair item) = None
shortfall_in (Skipped reason) = None

abbrev pub first_shortfall : List Event → Option Shortfall
first_shortfall [] = None
first_shortfall (e ∷ es) = shortfall_or (shortfall_in e) (first_shortfall es)

abbrev pub counted : SkippedPackets → Event → SkippedPackets
counted counts (Skipped reason) = skipped_after counts reason
counted counts (Ended pair shortfall) = counts
counted counts (Incomplete shortfall) = counts
counted counts (Logged pair item) = counts

abbrev pub skipped : SkippedPackets → List Event → SkippedPackets
skipped counts [] = counts
skipped counts (e ∷ es) = skipped (counted counts e) es
