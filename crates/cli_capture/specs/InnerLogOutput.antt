-- What only contracts of private functions use, besides the definitions of `LogOutput`.
use Rattle.std.specs.Prelude.{◌≡◌, ◌≤◌, ◌<◌, ◌||◌, ◌++◌, ◌∷◌, max, ℕ, Bool, true, false, List, [], length, map, Option, None, Some}
use Rattle.hsms_machine.specs.Settings.{Parameters}
use Rattle.capture_tcp.specs.declared.packet.Side.{Side}
use Rattle.capture_tcp.specs.declared.events.TimedEvent.{TimedEvent}
use Rattle.capture_tcp.specs.TcpStreams.{End, Seen, places}
use Rattle.capture_tcp.specs.KnownStreams.{bases}
use Rattle.capture_tcp.specs.Laws.{AreNumbered}
use Rattle.capture_tcp.specs.ConnectionEvents.{Entry, emits}
use Rattle.capture_log.specs.AuditedLog.{Note, note_text}
use Rattle.capture_log.specs.BothLogs.{Records}
use Rattle.capture_log.specs.WrittenLog.{MayHappen, begun_by, front_by}
use Rattle.capture_log.specs.declared.written_log.WrittenLog.{WrittenLog}
use Rattle.capture_log.specs.declared.socket_pair.Pair.{Pair}
use Rattle.cli_capture.specs.declared.progress.Progress.{Progress}
use Rattle.cli_capture.specs.declared.progress.Progress.TheVariants as progress
use Rattle.cli_capture.specs.declared.progress.Followed.{Followed as Taken}
use Rattle.cli_capture.specs.declared.progress.Followed.TheVariants as taken
use Rattle.cli_capture.specs.declared.tracked_connection.Logs.{Logs}
use Rattle.cli_capture.specs.declared.tracked_connection.Open.{Open}
use Rattle.cli_capture.specs.declared.tracked_connection.ConnectionState.{ConnectionState}
use Rattle.cli_capture.specs.declared.tracked_connection.ConnectionState.TheVariants as stage
use Rattle.cli_capture.specs.declared.report.OutputMode.TheVariants.{Log}
use Rattle.cli_capture.specs.declared.report.Report.{Report}
use Rattle.capture_errors.specs.declared.incomplete.Shortfall.{Shortfall}
use Rattle.cli_capture.specs.ConnectionLog.{clock_of, entries_logged}
use Rattle.cli_capture.specs.TrackedConnection.{came_up_by, course_by_events, logged_by}
use Rattle.cli_capture.specs.InnerTrackedConnection.{seen_waiting, times}
use Rattle.cli_capture.specs.ConnectionState.{answered_by, first_shown}
use Rattle.cli_capture.specs.InnerConnectionState.{StageAs}
use Rattle.cli_capture.specs.LogOutput.{Page, page_of, OnPage, with_down, CountsIf, EntriesOn, IsOpenIn, LeavesOpen, EndsOn, LogsTo, ThemOn, TellsWith, OverOnPage, EndsOnPageBy}

-- ---- things that happen

abbrev pub with_note : Parameters → Pair → Page → TimedEvent → Note → Page
with_note settings pair old h note = record {
  begun = begun_by old.begun pair h.event;
  time = max old.time h.time;
  text = (old.text ++ front_by old.begun settings h.event) ++ note_text note;
}

-- each has an entry behind a comment, and the first connection that comes up the line of the settings before it
abbrev pub HappensOn : Parameters → Side → Pair → List TimedEvent → Page → Page → Type 0
HappensOn settings side pair [] old new = new ≡ old
HappensOn settings side pair (h ∷ hs) old new =
    MayHappen old.begun pair h.event × (note : Note) × Records old.time side h note × HappensOn settings side pair hs (with_note settings pair old h note) new

-- what happens is on the page, as far as more may follow, and nothing else changes
pub record LogsThem (pair : Pair) (emitted : List TimedEvent) (c : Progress) (j : WrittenLog) (old new : Report) : Type 0 where
  pub next : WrittenLog
  pub manner_is : new.manner ≡ Log next
  pub settings_are : next.settings ≡ j.settings
  pub side_is : next.side ≡ j.side
  pub course_is : c ≡ course_by_events j.settings.max emitted
  pub on : OnPage c (HappensOn j.settings j.side pair (logged_by j.settings.max emitted)) (page_of j old) (page_of next new)
  pub same : new ≡ record old { manner = new.manner; page = new.page }

pub record LogsAll (pair : Pair) (first : Logs) (emitted : List TimedEvent) (c : Progress) (j : WrittenLog) (old : Report) (last : Logs) (new : Report) : Type 0 where
  pub logs : LogsThem pair (times first emitted) c j old new
  pub up : last.is_up ≡ (first.is_up || came_up_by (logged_by j.settings.max (times first emitted)))
  pub bare : last.bare_resets ≡ first.bare_resets

pub record GoesDown (j : WrittenLog) (old new : Report) : Type 0 where
  pub next : WrittenLog
  pub manner_is : new.manner ≡ Log next
  pub settings_are : next.settings ≡ j.settings
  pub side_is : next.side ≡ j.side
  pub on : page_of next new ≡ with_down (page_of j old)
  pub same : new ≡ record old { manner = new.manner; page = new.page }

abbrev pub DownsIf : Bool → WrittenLog → Report → Report → Type 0
DownsIf false j old new = new ≡ old
DownsIf true j old new = GoesDown j old new

-- ---- a connection that is followed from its SYN on

-- it goes on, or it is over, and lacks nothing
abbrev pub GoesOnPage : Logs → Progress → Taken → Option Open → Report → Report → Type 0
GoesOnPage logs progress.Proceeds (taken.Proceeds c) left old new = (left ≡ Some (record { connection = c; logs = logs })) × (new ≡ old)
GoesOnPage logs progress.Proceeds (taken.BothLogs lack) left old new = (left ≡ None) × (lack ≡ None) × CountsIf logs.is_up old new
GoesOnPage logs (progress.Over lack) t left old new = (left ≡ None) × (lack ≡ None) × CountsIf logs.is_up old new

-- with one segment more the page gets what is told of all of them, and wasn't told of those before
pub record LogsOn (j : WrittenLog) (pair : Pair) (base : End → ℕ) (before : List Seen) (s : Seen) (left : Option Open) (old new : Report) : Type 0 where
  pub more : List Entry
  pub tells_are : emits (places base [] (before ++ s ∷ [])) ≡ emits (places base [] before) ++ more
  pub mid : Report
  pub next : WrittenLog
  pub manner_is : mid.manner ≡ Log next
  pub settings_are : next.settings ≡ j.settings
  pub side_is : next.side ≡ j.side
  pub on : EntriesOn j.settings j.side pair (clock_of base (before ++ s ∷ [])) (entries_logged j.settings.max more) (page_of j old) (page_of next mid)
  pub same : mid ≡ record old { manner = mid.manner; page = mid.page }
  pub leaves : LeavesOpen j.settings.max base (before ++ s ∷ []) left mid new

abbrev pub FollowsOnPage : Pair → Seen → Open → Option Open → Report → Report → Type 0
FollowsOnPage pair s o left old new =
    (j : WrittenLog) → old.manner ≡ Log j → (base : End → ℕ) (before : List Seen) → AreNumbered 0 (before ++ s ∷ []) → IsOpenIn j.settings.max base before o
    → LogsOn j pair base before s left old new

abbrev pub EndsOnPage : Bool → Option Shortfall → Open → Report → Report → Type 0
EndsOnPage replaced missing o old new =
    (j : WrittenLog) → old.manner ≡ Log j → (base : End → ℕ) (seen : List Seen) → AreNumbered 0 seen → IsOpenIn j.settings.max base seen o
    → EndsOn j base seen replaced missing old new

-- ---- several segments, one after another

abbrev pub FollowsAllOnPage : Pair → List Seen → Open → Option Open → Report → Report → Type 0
FollowsAllOnPage pair ss o left old new =
    (j : WrittenLog) → old.manner ≡ Log j → (base : End → ℕ) (before : List Seen) → AreNumbered 0 (before ++ ss) → IsOpenIn j.settings.max base before o
    → ThemOn j pair base before ss left old new

abbrev pub BeginsOnPage : Pair → ℕ → ℕ → List Seen → Option Open → Report → Report → Type 0
BeginsOnPage pair a p ss left old new =
    (j : WrittenLog) → old.manner ≡ Log j → AreNumbered 0 ss → ThemOn j pair (bases a p) [] ss left old new

-- ---- a connection by the number of its SYN

abbrev pub StageIn : ℕ → ℕ → List Seen → ConnectionState → Type 0
StageIn most number seen st = StageAs (IsOpenIn most) number seen st

abbrev pub StageOnPage : WrittenLog → Pair → ℕ → List Seen → Seen → ConnectionState → Report → Report → Type 0
StageOnPage j pair number seen s (stage.Opening waiting) old new = (new ≡ old) × StageIn j.settings.max number (seen ++ s ∷ []) (stage.Opening waiting)
StageOnPage j pair number seen s (stage.Open o) old new =
    LogsTo (TellsWith (answered_by number seen) (answered_by number (seen ++ s ∷ [])) j.settings j.side pair number seen s) j old new
    × StageIn j.settings.max number (seen ++ s ∷ []) (stage.Open o)
StageOnPage j pair number seen s (stage.Joining gathering) old new = ⊥
StageOnPage j pair number seen s (stage.Within within) old new = ⊥
StageOnPage j pair number seen s stage.Over old new = OverOnPage (answered_by number seen) (answered_by number (seen ++ s ∷ [])) j pair number seen s old new

-- one segment more
abbrev pub TakesOnPage : Pair → Option ℕ → Seen → ConnectionState → ConnectionState → Report → Report → Type 0
TakesOnPage pair begins s st next old new =
    (j : WrittenLog) → old.manner ≡ Log j → (number : ℕ) → begins ≡ Some number → (seen : List Seen) → AreNumbered 0 (seen ++ s ∷ [])
    → StageIn j.settings.max number seen st → StageOnPage j pair number seen s next old new

abbrev pub WaitsOnPage : List Seen → ConnectionState → Report → Report → Type 0
WaitsOnPage all (stage.Opening waiting) old new = (new ≡ old) × (map seen_waiting waiting.items ≡ all) × (length all ≤ 4096)
WaitsOnPage all (stage.Open o) old new = ⊥
WaitsOnPage all (stage.Joining gathering) old new = ⊥
WaitsOnPage all (stage.Within within) old new = ⊥
WaitsOnPage all stage.Over old new = (4096 < length all) × (first_shown all ≡ None) × (new ≡ old)

abbrev pub EndsStageOnPage : Bool → Option Shortfall → ConnectionState → Report → Report → Type 0
EndsStageOnPage replaced missing st old new =
    (j : WrittenLog) → old.manner ≡ Log j → (number : ℕ) (seen : List Seen) → AreNumbered 0 seen → StageIn j.settings.max number seen st
    → EndsOnPageBy (answered_by number seen) j number seen replaced missing old new
