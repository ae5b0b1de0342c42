-- What only contracts of private functions use, besides the definitions of `Report`.
use Rattle.std.specs.Prelude.{◌≡◌, ◌++◌, ℕ, [], Bool, Option, None, Some, List, Result, Ok, Err}
use Rattle.hsms_frame.specs.Io.{Grows}
use Rattle.hsms_machine.specs.declared.settings.Role.{Role}
use Rattle.capture_tcp.specs.declared.packet.Side.{Side}
use Rattle.capture_tcp.specs.declared.packet.Side.TheVariants.{Active, Passive}
use Rattle.cli_capture.specs.SkippedPackets.{line_of}
use Rattle.capture_errors.specs.Errors.{IsRefusal}
use Rattle.capture_log.specs.Stop.{IsNoRefusal}
use Rattle.capture_errors.specs.declared.capture_error.CaptureError.{CaptureError}
use Rattle.capture_log.specs.declared.audited_log.LogVerdict.{LogVerdict}
use Rattle.capture_log.specs.declared.both_logs.BothLogs.{BothLogs}
use Rattle.capture_log.specs.declared.written_log.WrittenLog.{WrittenLog}
use Rattle.capture_log.specs.declared.socket_pair.Pair.{Pair}
use Rattle.cli_capture.specs.declared.skipped_packets.LeftOut.{LeftOut}
use Rattle.cli_capture.specs.declared.report.OutputMode.{OutputMode}
use Rattle.cli_capture.specs.declared.report.OutputMode.TheVariants.{Verdicts, Log}
use Rattle.cli_capture.specs.declared.report.Report.{Report}
use Rattle.capture_errors.specs.declared.incomplete.Shortfall.{Shortfall}
use Rattle.capture_log.specs.declared.stop.Stop.{Stop}
use Rattle.capture_log.specs.declared.stop.Stop.TheVariants as stop
use Rattle.cli_capture.specs.Report.{failed_after, IsVerdictOn, LogOutputState, telling_lines, Found, found_of, found_with, found_behind, outcome_of, Answers, lines_of, HasEmitted}

-- the role of an end
abbrev pub role_at : Report → Side → Role
role_at report Active = report.active.role
role_at report Passive = report.passive.role

-- these lines are on the page, and whether one of the verdicts fails counts
pub record IsReported (output_state : LogOutputState) (old new : Report) : Type 0 where
  pub page : new.page.octets ≡ old.page.octets ++ telling_lines old.active.role old.passive.role output_state
  pub failed : new.has_failed ≡ failed_after (failed_after old.has_failed output_state.active) output_state.passive

-- of a connection that came up the verdicts on the logs of both ends are told, and of another one that it has none
abbrev pub TellsVerdicts : Pair → Option Shortfall → Option BothLogs → Report → Report → Type 0
TellsVerdicts pair shortfall None old new =
    IsReported (record { pair = pair; shortfall = shortfall; active = None; passive = None }) old new
TellsVerdicts pair shortfall (Some ends) old new =
    (active passive : LogVerdict) × IsVerdictOn ends.active active × IsVerdictOn ends.passive passive
    × IsReported (record { pair = pair; shortfall = shortfall; active = Some active; passive = Some passive }) old new

-- where the log of an end is told, nothing is told when a connection is over
abbrev pub TellsBy : OutputMode → Pair → Option Shortfall → Option BothLogs → Report → Report → Type 0
TellsBy Verdicts pair shortfall ends old new = TellsVerdicts pair shortfall ends old new
TellsBy (Log journal) pair shortfall ends old new = (new.has_failed ≡ old.has_failed) × (new.page ≡ old.page)

-- what is answered at the end: whether all is well, a refusal where no log fails, or want of memory
abbrev pub Finishes : Found → Result Bool Stop → Type 0
Finishes found (Ok well) = outcome_of found ≡ Ok well
Finishes found (Err (stop.Refused rejection)) = outcome_of found ≡ Err rejection
Finishes found (Err stop.Memory) = Unit {0}

-- where verdicts are told, nothing is refused before the end
unfoldable pub StopsUnrefused : Report → Stop → Type 0
StopsUnrefused report stop = report.manner ≡ Verdicts → IsNoRefusal stop

-- as the command tells it
unfoldable pub FailsUnrefused : Report → CaptureError → Type 0
FailsUnrefused report fault = report.manner ≡ Verdicts → IsRefusal fault → ⊥

-- the log of an end that is told goes on, by the same settings
abbrev pub KeepsLog : Report → Report → Type 0
KeepsLog old new =
    (j : WrittenLog) → old.manner ≡ Log j
    → (next : WrittenLog) × (new.manner ≡ Log next) × (next.settings ≡ j.settings) × (next.side ≡ j.side) × (new.active ≡ old.active) × (new.passive ≡ old.passive)

unfoldable pub Emits : Report → Report → Type 0
Emits old new = (old.manner ≡ Verdicts → (tellings : List LogOutputState) × HasEmitted tellings old new) × KeepsLog old new

-- the same behind a packet that may have been left out
abbrev pub TellsBehind : Report → Report → Type 0
TellsBehind old new = (counts : LeftOut) × Emits (record old { left_out = counts }) new

-- their lines were written, and none is left on the page
pub record HasWritten (tellings : List LogOutputState) (old : Report) (before : Option (List ℕ)) (new : Report) (after : Option (List ℕ)) : Type 0 where
  pub lines : Grows before after (lines_of old.active.role old.passive.role tellings)
  pub found : found_of new ≡ found_behind (found_of old) tellings
  pub active : new.active ≡ old.active
  pub passive : new.passive ≡ old.passive
  pub manner : new.manner ≡ Verdicts
  pub page : new.page.octets ≡ []

unfoldable pub Writes : Report → Option (List ℕ) → Report → Option (List ℕ) → Type 0
Writes old before new after =
    old.manner ≡ Verdicts → old.page.octets ≡ [] → (tellings : List LogOutputState) × HasWritten tellings old before new after

-- the connections that were left are told, then what was left out, and this is answered
abbrev pub Concludes : Option Shortfall → Report → Report → Result Bool Stop → Type 0
Concludes missing old new result =
    old.manner ≡ Verdicts → (tellings : List LogOutputState) × (left_out : LeftOut)
    × (new.page.octets ≡ old.page.octets ++ (lines_of old.active.role old.passive.role tellings ++ line_of left_out))
    × Finishes (found_behind (found_with (found_of old) missing) tellings) result

-- their lines were written
abbrev pub EndsWith : Option Shortfall → Report → Option (List ℕ) → Option (List ℕ) → Result Bool CaptureError → Type 0
EndsWith missing old before after result =
    old.manner ≡ Verdicts → old.page.octets ≡ [] → (tellings : List LogOutputState) × (left_out : LeftOut)
    × Grows before after (lines_of old.active.role old.passive.role tellings ++ line_of left_out)
    × Answers (found_behind (found_with (found_of old) missing) tellings) result
