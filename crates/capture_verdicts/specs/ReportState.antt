-- The state of a report after some events.
use Rattle.std.specs.Prelude.{◌≡◌, ℕ, max, true, List, [], ◌∷◌, ◌++◌, Option, Some, None}
use Rattle.indexmap.specs.IndexMap.{get}
use Rattle.hsms_machine.specs.Settings.{Parameters}
use Rattle.capture_tcp.specs.declared.packet.Side.TheVariants.{Active, Passive}
use Rattle.capture_log.specs.AuditedLog.{HasLogged}
use Rattle.capture_log.specs.contracts.socket_pair.PairPartialEq.TheImpl as same_pair
use Rattle.capture_log.specs.declared.socket_pair.Pair.{Pair}
use Rattle.capture_events.specs.declared.event.Event.{Event}
use Rattle.capture_events.specs.declared.log_item.LogItem.{LogItem}
use Rattle.capture_events.specs.ConnectionItems.{is_there}
use Rattle.capture_verdicts.specs.declared.pair_logs.PairLogs.{PairLogs}
use Rattle.capture_verdicts.specs.declared.verdict_report.VerdictReport.{VerdictReport}
use Rattle.capture_verdicts.specs.SkippedPackets.{none_skipped}
use Rattle.capture_verdicts.specs.VerdictReport.{AllVerdicts, PairVerdicts, fails, first_shortfall, skipped, log_of, notes, verdict_lines}

-- ---- the logs of both endpoints

abbrev pub latest : ℕ → List LogItem → ℕ
latest before [] = before
latest before (item ∷ items) = latest (max before item.time) items

pub record HaveLogged (a p : Parameters) (items : List LogItem) (both : PairLogs) : Type 0 where
  pub active : HasLogged a (notes Active 0 items) both.active
  pub passive : HasLogged p (notes Passive 0 items) both.passive
  pub time : both.time ≡ latest 0 items

abbrev pub AddsItem : LogItem → PairLogs → PairLogs → Type 0
AddsItem item old new = (a p : Parameters) (items : List LogItem) → HaveLogged a p items old → HaveLogged a p (items ++ item ∷ []) new

-- ---- the report after these events, with these verdicts

abbrev pub both_of : VerdictReport → Pair → Option PairLogs
both_of r pair = get (same_pair.ghosts).eq r.logs pair

abbrev pub LogIs : Parameters → Parameters → List LogItem → Option PairLogs → Type 0
LogIs a p items None = items ≡ []
LogIs a p items (Some both) = (is_there items ≡ true) × HaveLogged a p items both

pub record ReportIs (a p : Parameters) (es : List Event) (ts : List PairVerdicts) (r : VerdictReport) : Type 0 where
  pub active : r.active ≡ a
  pub passive : r.passive ≡ p
  pub logs : (pair : Pair) → LogIs a p (log_of pair [] es) (both_of r pair)
  pub shortfall : r.shortfall ≡ first_shortfall es
  pub failed : r.has_failed ≡ fails ts
  pub verdict : r.has_verdicts ≡ is_there ts
  pub counts : r.counts ≡ skipped none_skipped es
  pub all_verdicts : AllVerdicts a p [] es ts

abbrev pub lines_of : Parameters → Parameters → List PairVerdicts → List ℕ
lines_of a p [] = []
lines_of a p (t ∷ ts) = verdict_lines a p t ++ lines_of a p ts

-- One event more.
abbrev pub Takes : Event → VerdictReport → VerdictReport → Type 0
Takes e old new =
    (a p : Parameters) (es : List Event) (ts : List PairVerdicts) → ReportIs a p es ts old
    → (more : List PairVerdicts) × ReportIs a p (es ++ e ∷ []) (ts ++ more) new × (new.page.octets ≡ old.page.octets ++ lines_of a p more)
