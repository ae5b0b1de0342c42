-- The error of the command, by why the audit of a capture stops.
use Rattle.std.specs.Prelude.{◌≡◌}
use Rattle.capture_errors.specs.declared.capture_error.CaptureError.{CaptureError}
use Rattle.capture_errors.specs.declared.capture_error.CaptureError.TheVariants as error
use Rattle.capture_errors.specs.declared.incomplete.Shortfall.{Shortfall}
use Rattle.capture_errors.specs.declared.rejection.Rejection.TheVariants.{Incomplete}
use Rattle.capture_log.specs.declared.stop.Stop.{Stop}
use Rattle.capture_log.specs.declared.stop.Stop.TheVariants as stop

-- The error of the command: a rejection, or a failed allocation.
abbrev pub error_of : Stop → CaptureError
error_of (stop.Refused rejection) = error.Refused rejection
error_of stop.Memory = error.Memory

-- Holds if the capture is rejected by what is missing.
abbrev pub IsRefusalOf : Shortfall → Stop → Type 0
IsRefusalOf shortfall st = st ≡ stop.Refused (Incomplete shortfall)
