-- What was found of the connections of a capture.
use Rattle.std.specs.Prelude.{◌≡◌, ◌++◌, ℕ, [], ◌∷◌, flat_map, Bool, true, false, Option, None, Some, List, Result, Ok, Err}
use Rattle.hsms_machine.specs.Settings.{Parameters}
use Rattle.hsms_machine.specs.declared.settings.Role.{Role}
use Rattle.hsms_log.specs.declared.verdict.Verdict.{Verdict}
use Rattle.hsms_log.specs.declared.verdict.Verdict.TheVariants.{Pass, Fail}
use Rattle.capture_tcp.specs.declared.packet.Side.TheVariants.{Active, Passive}
use Rattle.cli_capture.specs.VerdictLine.{end_line_of}
use Rattle.capture_errors.specs.declared.capture_error.CaptureError.{CaptureError}
use Rattle.capture_errors.specs.declared.capture_error.CaptureError.TheVariants as error
use Rattle.capture_log.specs.AuditedLog.{HasLogged, Note, SaysOf, CurrentState}
use Rattle.capture_log.specs.declared.audited_log.LogVerdict.{LogVerdict}
use Rattle.capture_log.specs.declared.socket_pair.Pair.{Pair}
use Rattle.capture_midstream.specs.declared.session_filter.Session.{Session}
use Rattle.cli_capture.specs.declared.report.OutputMode.TheVariants.{Verdicts}
use Rattle.cli_capture.specs.declared.report.Report.{Report}
use Rattle.capture_errors.specs.declared.incomplete.Shortfall.{Shortfall}
use Rattle.capture_errors.specs.declared.rejection.Rejection.{Rejection}
use Rattle.capture_errors.specs.declared.rejection.Rejection.TheVariants.{Incomplete, NoConnection}

-- by what the messages of a session are known
abbrev pub session_of : Parameters → Session
session_of settings = record { device = settings.device; max = settings.max; depth = settings.depth }

-- of what is missing, what was found first
abbrev pub first_of : Option Shortfall → Shortfall → Shortfall
first_of None shortfall = shortfall
first_of (Some first) shortfall = first

abbrev pub missing_after : Option Shortfall → Option Shortfall → Option Shortfall
missing_after first None = first
missing_after first (Some shortfall) = Some (first_of first shortfall)

-- whether some log has failed, behind one more verdict
abbrev pub failed_after_verdict : Bool → Verdict → Bool
failed_after_verdict failed (Pass summary) = failed
failed_after_verdict failed (Fail line why) = true

abbrev pub failed_after : Bool → Option LogVerdict → Bool
failed_after failed None = failed
failed_after failed (Some emitted) = failed_after_verdict failed emitted.verdict

-- the verdict is that of the audit on the log of an end, with the packet of the line that fails
abbrev pub IsVerdictOn : CurrentState → LogVerdict → Type 0
IsVerdictOn account emitted =
    (settings : Parameters) (notes : List Note) → HasLogged settings notes account → SaysOf settings notes emitted

-- what is told of a connection: its addresses, what it lacks, and what the audit says of the logs of both ends, where it
-- came up
pub record LogOutputState : Type 0 where
  pub pair : Pair
  pub shortfall : Option Shortfall
  pub active : Option LogVerdict
  pub passive : Option LogVerdict

-- the lines of both ends, the active one's first
abbrev pub telling_lines : Role → Role → LogOutputState → List ℕ
telling_lines active passive output_state =
    end_line_of output_state.pair active Active output_state.shortfall output_state.active
    ++ end_line_of output_state.pair passive Passive output_state.shortfall output_state.passive

-- what was found: whether some log fails, what was missing first, and whether a connection was told
pub record Found : Type 0 where
  pub failed : Bool
  pub shortfall : Option Shortfall
  pub emitted : Bool

abbrev pub found_of : Report → Found
found_of report = record { failed = report.has_failed; shortfall = report.shortfall; emitted = report.has_told }

abbrev pub nothing_found : Found
nothing_found = record { failed = false; shortfall = None; emitted = false }

-- something is missing, or nothing
abbrev pub found_with : Found → Option Shortfall → Found
found_with found missing = record found { shortfall = missing_after found.shortfall missing }

-- one more connection is told
abbrev pub found_after : Found → LogOutputState → Found
found_after found output_state = record {
  failed = failed_after (failed_after found.failed output_state.active) output_state.passive;
  shortfall = missing_after found.shortfall output_state.shortfall;
  emitted = true;
}

abbrev pub found_behind : Found → List LogOutputState → Found
found_behind found [] = found
found_behind found (output_state ∷ rest) = found_behind (found_after found output_state) rest

-- The result by what was found: false if a log fails, otherwise a rejection by what is missing or because no connection
-- came up, otherwise true.
abbrev pub outcome_by : Bool → Option Shortfall → Bool → Result Bool Rejection
outcome_by true shortfall emitted = Ok false
outcome_by false (Some shortfall) emitted = Err (Incomplete shortfall)
outcome_by false None true = Ok true
outcome_by false None false = Err NoConnection

abbrev pub outcome_of : Found → Result Bool Rejection
outcome_of found = outcome_by found.failed found.shortfall found.emitted

-- Holds if the command returns this result. No read, write or allocation failed.
abbrev pub Answers : Found → Result Bool CaptureError → Type 0
Answers found (Ok well) = outcome_of found ≡ Ok well
Answers found (Err (error.Refused rejection)) = outcome_of found ≡ Err rejection
Answers found (Err fault) = ⊥

-- the lines of connections, one after another
abbrev pub lines_of : Role → Role → List LogOutputState → List ℕ
lines_of active passive tellings = flat_map (telling_lines active passive) tellings

-- these connections are told, where verdicts are
pub record HasEmitted (tellings : List LogOutputState) (old new : Report) : Type 0 where
  pub page : new.page.octets ≡ old.page.octets ++ lines_of old.active.role old.passive.role tellings
  pub found : found_of new ≡ found_behind (found_of old) tellings
  pub active : new.active ≡ old.active
  pub passive : new.passive ≡ old.passive
  pub manner : new.manner ≡ Verdicts
  pub left_out : new.left_out ≡ old.left_out
