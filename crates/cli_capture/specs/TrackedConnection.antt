-- A connection in the midst of a capture: both logs have what was told of it so far.
use Rattle.std.specs.Prelude.{◌≡◌, ◌⊎◌, ◌++◌, ◌∷◌, max, ℕ, Bool, true, false, if◌then◌else◌, List, [], Option, Some, None}
use Rattle.std.specs.List.{list_any}
use Rattle.hsms_machine.specs.Settings.{Parameters}
use Rattle.capture_tcp.specs.declared.events.Event.{Event}
use Rattle.capture_tcp.specs.declared.events.Event.TheVariants as happens
use Rattle.capture_tcp.specs.declared.events.TimedEvent.{TimedEvent}
use Rattle.capture_tcp.specs.TcpStreams.{End, Seen, places}
use Rattle.capture_tcp.specs.EndOfStream.{is_known}
use Rattle.capture_tcp.specs.Limits.{EndsPast, IsFar}
use Rattle.capture_tcp.specs.ConnectionEvents.{emits}
use Rattle.capture_log.specs.BothLogs.{reception_of}
use Rattle.capture_log.specs.declared.audited_log.LogVerdict.{LogVerdict as Checked}
use Rattle.capture_log.specs.declared.both_logs.BothLogs.{BothLogs}
use Rattle.capture_log.specs.declared.both_logs.LogResult.{LogResult}
use Rattle.capture_log.specs.declared.socket_pair.Pair.{Pair}
use Rattle.cli_capture.specs.declared.progress.Progress.{Progress}
use Rattle.cli_capture.specs.declared.progress.Progress.TheVariants as progress
use Rattle.cli_capture.specs.declared.report.Report.{Report}
use Rattle.capture_errors.specs.declared.incomplete.Shortfall.{Shortfall}
use Rattle.capture_errors.specs.declared.incomplete.Shortfall.TheVariants as lacks
use Rattle.cli_capture.specs.ConnectionLog.{TellsOf, clock_of, course_by, course_of, is_among, logged}
use Rattle.cli_capture.specs.Report.{HasEmitted, IsVerdictOn}

-- ---- something happens

-- at the time of the entry before, where a reset that acknowledges nothing ends it
abbrev pub time_by : Event → Bool → ℕ → ℕ
time_by happens.Up bare time = time
time_by (happens.Message from octets) bare time = time
time_by happens.Down bare time = if bare then 0 else time

abbrev pub timed_by : List ℕ → TimedEvent → TimedEvent
timed_by bare h = record h { time = time_by h.event (is_among bare h.packet) h.time }

abbrev pub is_up_event : Event → Bool
is_up_event happens.Up = true
is_up_event (happens.Message from octets) = false
is_up_event happens.Down = false

abbrev pub came_up_by : List TimedEvent → Bool
came_up_by hs = list_any (λ h. is_up_event h.event) hs

abbrev pub hears_event : ℕ → TimedEvent → LogResult
hears_event most h = reception_of most h.event

abbrev pub logged_by : ℕ → List TimedEvent → List TimedEvent
logged_by most hs = logged (hears_event most) hs

abbrev pub course_by_events : ℕ → List TimedEvent → Progress
course_by_events most hs = course_of (hears_event most) (λ h. h.packet) hs

-- ---- a connection is over

-- its lines are told, with the verdicts on its logs
abbrev pub TellsOnce : Pair → Option Shortfall → Option BothLogs → Report → Report → Type 0
TellsOnce pair lack None old new = HasEmitted (record { pair = pair; shortfall = lack; active = None; passive = None } ∷ []) old new
TellsOnce pair lack (Some ends) old new =
    (active passive : Checked) × IsVerdictOn ends.active active × IsVerdictOn ends.passive passive
    × HasEmitted (record { pair = pair; shortfall = lack; active = Some active; passive = Some passive } ∷ []) old new

abbrev pub WhenTold : Bool → Pair → Option Shortfall → Option BothLogs → Report → Report → Type 0
WhenTold false pair lack ends old new = new ≡ old
WhenTold true pair lack ends old new = TellsOnce pair lack ends old new

-- ---- a segment is taken

-- a stream has come too far, or too much would wait
abbrev pub IsTooMuch : (End → ℕ) → List Seen → Seen → Type 0
IsTooMuch base before s = IsFar (places base [] before) ⊎ EndsPast base (places base [] before) s

-- behind some segments these are taken one after another, and with none of them too much waits
abbrev pub AllFit : (End → ℕ) → List Seen → List Seen → Type 0
AllFit base before [] = Unit {0}
AllFit base before (s ∷ ss) = (IsTooMuch base before s → ⊥) × AllFit base (before ++ s ∷ []) ss

-- Behind these segments more may be told of it, whatever was told, and it isn't known how that ends; and with none of them too
-- much waits.
unfoldable pub MayTellMore : Parameters → (End → ℕ) → List Seen → Type 0
MayTellMore a base seen =
    (course_by a.max (emits (places base [] seen)) ≡ progress.Proceeds) × (is_known (places base [] seen) ≡ false) × AllFit base [] seen

-- it is given up with a segment, with which too much would wait: both logs end with what is told of those before it
abbrev pub GivesUp : Parameters → Parameters → Pair → (End → ℕ) → List Seen → Seen → Report → Report → Type 0
GivesUp a p pair base before s old new =
    MayTellMore a base before × IsTooMuch base before s
    × TellsOf a p pair (clock_of base before) (emits (places base [] before)) false (Some (lacks.Full s.packet)) old new
