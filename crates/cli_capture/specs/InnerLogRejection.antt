-- What only contracts of private functions use, besides the definitions of `LogRejection`.
use Rattle.std.specs.Prelude.{◌≡◌, ◌<◌, ◌++◌, ◌∷◌, ℕ, List, [], length, Option, Some, None}
use Rattle.capture_tcp.specs.declared.events.Event.TheVariants as happens
use Rattle.capture_tcp.specs.declared.events.TimedEvent.{TimedEvent}
use Rattle.capture_tcp.specs.TcpStreams.{End, Seen, places}
use Rattle.capture_tcp.specs.EndOfStream.{ended}
use Rattle.capture_tcp.specs.KnownStreams.{bases}
use Rattle.capture_tcp.specs.Laws.{AreNumbered}
use Rattle.capture_log.specs.WrittenLog.{Refuses}
use Rattle.capture_log.specs.declared.written_log.WrittenLog.{WrittenLog}
use Rattle.capture_log.specs.declared.socket_pair.Pair.{Pair}
use Rattle.capture_log.specs.declared.stop.Stop.{Stop}
use Rattle.cli_capture.specs.declared.progress.Progress.{Progress}
use Rattle.cli_capture.specs.declared.progress.Progress.TheVariants as progress
use Rattle.cli_capture.specs.declared.progress.Followed.{Followed as Taken}
use Rattle.cli_capture.specs.declared.progress.Followed.TheVariants as taken
use Rattle.cli_capture.specs.declared.tracked_connection.Logs.{Logs}
use Rattle.cli_capture.specs.declared.tracked_connection.Open.{Open}
use Rattle.cli_capture.specs.declared.tracked_connection.ConnectionState.{ConnectionState}
use Rattle.cli_capture.specs.declared.tracked_connection.ConnectionState.TheVariants.{Over}
use Rattle.cli_capture.specs.declared.report.OutputMode.TheVariants.{Log}
use Rattle.cli_capture.specs.declared.report.Report.{Report}
use Rattle.capture_errors.specs.declared.incomplete.Shortfall.{Shortfall}
use Rattle.cli_capture.specs.Progress.{lack_behind}
use Rattle.cli_capture.specs.TrackedConnection.{course_by_events}
use Rattle.cli_capture.specs.InnerTrackedConnection.{times}
use Rattle.cli_capture.specs.LogOutput.{IsOpenIn, Page, page_of}
use Rattle.cli_capture.specs.InnerLogOutput.{HappensOn, StageIn}
use Rattle.cli_capture.specs.ConnectionState.{answered_by, lost_by}
use Rattle.cli_capture.specs.InnerStopError.{IsRefused}
use Rattle.cli_capture.specs.LogRejection.{RefusesFor, RefusesSegment, RefusesOf, RefusedWith, lack_at_end}

-- it is so where the log of an end is told, and what comes is refused
unfoldable pub InLog : Stop → Report → (WrittenLog → Type 0) → Type 0
InLog st old IsSo = IsRefused st → (j : WrittenLog) → old.manner ≡ Log j → IsSo j

-- ---- what is missing

abbrev pub LacksRefused : Option Shortfall → Stop → Report → Report → Type 0
LacksRefused lacks st old new = InLog st old (λ j. RefusesFor lacks st old new)

-- what it lacks that is over
abbrev pub lack_left : Progress → Taken → Option Shortfall
lack_left progress.Proceeds (taken.Proceeds c) = None
lack_left progress.Proceeds (taken.BothLogs lack) = lack
lack_left (progress.Over lack) t = lack

-- ---- what comes up

-- one that comes up is refused by the one that came up last, and the page is as it was
abbrev pub HearsRefused : Pair → TimedEvent → Stop → Report → Report → Type 0
HearsRefused pair h st old new =
    InLog st old (λ j. (h.event ≡ happens.Up) × Refuses j.begun pair h.packet st × (new.page.octets ≡ old.page.octets))

-- what happened before it is on the page
pub record RefusesAmong (pair : Pair) (first : Logs) (emitted : List TimedEvent) (st : Stop) (j : WrittenLog) (old new : Report) : Type 0 where
  pub front : List TimedEvent
  pub h : TimedEvent
  pub rest : List TimedEvent
  pub are : emitted ≡ front ++ h ∷ rest
  pub proceeds : course_by_events j.settings.max (times first front) ≡ progress.Proceeds
  pub is_up : h.event ≡ happens.Up
  pub mid : Page
  pub on : HappensOn j.settings j.side pair (times first front) (page_of j old) mid
  pub refused : Refuses mid.begun pair h.packet st
  pub text_is : new.page.octets ≡ mid.text

abbrev pub HearsThemRefused : Pair → Logs → List TimedEvent → Stop → Report → Report → Type 0
HearsThemRefused pair first emitted st old new = InLog st old (λ j. RefusesAmong pair first emitted st j old new)

-- ---- a segment

abbrev pub FollowsRefused : Pair → Seen → Open → Stop → Report → Report → Type 0
FollowsRefused pair s o st old new =
    InLog st old (λ j. (base : End → ℕ) (before : List Seen) → AreNumbered 0 (before ++ s ∷ []) → IsOpenIn j.settings.max base before o
    → RefusesSegment j pair base before s st old new)

-- ---- several segments, one after another

abbrev pub FollowsAllRefused : Pair → List Seen → Open → Stop → Report → Report → Type 0
FollowsAllRefused pair ss o st old new =
    InLog st old (λ j. (base : End → ℕ) (before : List Seen) → AreNumbered 0 (before ++ ss) → IsOpenIn j.settings.max base before o
    → RefusesOf j pair base before ss st old new)

abbrev pub BeginsRefused : Pair → ℕ → ℕ → List Seen → Stop → Report → Report → Type 0
BeginsRefused pair a p ss st old new = InLog st old (λ j. AreNumbered 0 ss → RefusesOf j pair (bases a p) [] ss st old new)

-- ---- a connection by the number of its SYN

-- too many packets wait
abbrev pub WaitsRefused : List Seen → Stop → Report → Report → Type 0
WaitsRefused all st old new = InLog st old (λ j. (4096 < length all) × RefusesFor (lost_by all) st old new)

-- one segment more, of one that isn't over
abbrev pub TakesRefused : Pair → Option ℕ → Seen → ConnectionState → Stop → Report → Report → Type 0
TakesRefused pair begins s stage st old new =
    InLog st old (λ j. (stage ≡ Over → ⊥) × ((number : ℕ) → begins ≡ Some number → (seen : List Seen) → AreNumbered 0 (seen ++ s ∷ [])
    → StageIn j.settings.max number seen stage
    → RefusedWith (answered_by number seen) (answered_by number (seen ++ s ∷ [])) j pair number seen s st old new))

-- no segment follows: it lacks something
abbrev pub EndsOpenRefused : Option Shortfall → Open → Stop → Report → Report → Type 0
EndsOpenRefused missing o st old new =
    InLog st old (λ j. (base : End → ℕ) (seen : List Seen) → AreNumbered 0 seen → IsOpenIn j.settings.max base seen o
    → RefusesFor (lack_behind (ended (places base [] seen)) missing) st old new)

abbrev pub EndsRefused : Option Shortfall → ConnectionState → Stop → Report → Report → Type 0
EndsRefused missing stage st old new =
    InLog st old (λ j. (stage ≡ Over → ⊥) × ((number : ℕ) (seen : List Seen) → AreNumbered 0 seen → StageIn j.settings.max number seen stage
    → RefusesFor (lack_at_end (answered_by number seen) number seen missing) st old new))
