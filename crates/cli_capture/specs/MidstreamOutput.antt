-- What is told of a session that was running before its capture, once it is over, by what its log has.
use Rattle.std.specs.Prelude.{◌≡◌, ◌-◌, ◌||◌, ◌++◌, ◌∷◌, ℕ, Bool, true, false, List, [], Option, Some, None, is_some}
use Rattle.hsms_machine.specs.Settings.{Parameters}
use Rattle.capture_tcp.specs.declared.packet.Side.{Side}
use Rattle.capture_tcp.specs.declared.packet.Side.TheVariants as side
use Rattle.capture_tcp.specs.declared.events.TimedEvent.{TimedEvent}
use Rattle.capture_log.specs.AuditedLog.{Note, SaysOf}
use Rattle.capture_log.specs.declared.audited_log.LogVerdict.{LogVerdict as Checked}
use Rattle.capture_log.specs.declared.written_log.WrittenLog.{WrittenLog}
use Rattle.capture_log.specs.declared.socket_pair.Pair.{Pair}
use Rattle.cli_capture.specs.declared.progress.Progress.TheVariants as progress
use Rattle.cli_capture.specs.declared.report.OutputMode.TheVariants.{Log}
use Rattle.cli_capture.specs.declared.report.Report.{Report}
use Rattle.capture_errors.specs.declared.incomplete.Shortfall.{Shortfall}
use Rattle.cli_capture.specs.OutputMode.{Way, to_log, to_verdicts}
use Rattle.cli_capture.specs.TrackedConnection.{timed_by}
use Rattle.cli_capture.specs.MidstreamItems.{AreItems, Item, LogsItems, closes_down}
use Rattle.cli_capture.specs.ConnectionLog.{TellsIf, is_there}
use Rattle.cli_capture.specs.LogOutput.{CountsIf}
use Rattle.cli_capture.specs.Report.{LogOutputState}

-- ---- where packets stand in the capture

-- so many packets of the connection weren't captured: those by which it came up
abbrev pub uncaptured : ℕ
uncaptured = 3

-- what happens, at its packet of the capture, and at the time of the entry before where a reset that acknowledges nothing
-- ends it
abbrev pub in_capture : List ℕ → TimedEvent → TimedEvent
in_capture bare h = timed_by bare (record h { packet = h.packet - uncaptured })

-- ---- the verdicts on both logs

abbrev pub JudgedItems : Bool → Parameters → Side → List Item → Option Checked → Type 0
JudgedItems false settings side xs check_result = check_result ≡ None
JudgedItems true settings side xs check_result =
    (says : Checked) × (notes : List Note) × (last : ℕ) × (check_result ≡ Some says) × AreItems side 0 xs notes last × SaysOf settings notes says

-- what the lines of both ends say
pub record ShownItems (a p : Parameters) (ends : Pair) (xs : List Item) (lack : Option Shortfall) (says : LogOutputState) : Type 0 where
  pub ends_are : says.pair ≡ ends
  pub lack_is : says.shortfall ≡ lack
  pub active_is : JudgedItems (is_there xs) a side.Active xs says.active
  pub passive_is : JudgedItems (is_there xs) p side.Passive xs says.passive

-- one whose log has nothing, and that lacks nothing, isn't told
abbrev pub TellsItems : Parameters → Parameters → Pair → List Item → Option Shortfall → Report → Report → Type 0
TellsItems a p ends xs lack old new = TellsIf (is_there xs || is_some lack) (ShownItems a p ends xs lack) old new

-- ---- the page with the log of one end

-- it gets what it doesn't have yet of the log, which lacks nothing, and counts as told where that has something
pub record EndsLog (pair : Pair) (xs had : List Item) (lack : Option Shortfall) (j : WrittenLog) (old new : Report) : Type 0 where
  pub lacks : lack ≡ None
  pub more : List Item
  pub log_is : xs ≡ had ++ more
  pub mid : Report
  pub logs : LogsItems pair progress.Proceeds more j old mid
  pub counts : CountsIf (is_there xs) mid new

-- ---- it is over

-- with a log that has these items, of which some were logged before
abbrev pub EndsSession : Way → Parameters → Parameters → Pair → List Item → List Item → Option Shortfall → Report → Report → Type 0
EndsSession to_verdicts a p pair xs had lack old new = TellsItems a p pair xs lack old new
EndsSession (to_log settings side) a p pair xs had lack old new = (j : WrittenLog) → old.manner ≡ Log j → EndsLog pair xs had lack j old new

-- where it came up, it goes down since another connection replaces it
abbrev pub and_down : List Item → List Item
and_down [] = []
and_down (x ∷ xs) = (x ∷ xs) ++ closes_down ∷ []
