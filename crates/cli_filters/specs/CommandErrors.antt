-- The errors of the command: their texts, kinds and statuses.
use Rattle.std.specs.Prelude.{◌≡◌, ℕ, Bool, List, codes, Result, Ok, Err}
use Rattle.hsms_frame.specs.declared.fault.ReadFault.TheVariants as read
use Rattle.hsms_log.specs.declared.fault.AuditFault.TheVariants as log
use Rattle.hsms_log.specs.declared.verdict.Verdict.{Verdict}
use Rattle.secs_text.specs.declared.fault.TextFault.TheVariants as text
use Rattle.capture_errors.specs.declared.capture_error.CaptureError.{CaptureError}
use Rattle.capture_errors.specs.declared.capture_error.CaptureError.TheVariants as capture
use Rattle.capture_errors.specs.Errors.{capture_error_text}
use Rattle.cli_options.specs.declared.fault.ToolFault.{ToolFault}
use Rattle.cli_options.specs.declared.fault.ToolFault.TheVariants as tool
use Rattle.cli_options.specs.Status.{IsRefusedAs}
use Rattle.cli_output.specs.Verdict.{is_pass}
use Rattle.cli_show.specs.declared.show_error.ShowError.{ShowError}
use Rattle.cli_show.specs.declared.show_error.ShowError.TheVariants as show
use Rattle.cli_show.specs.ShowErrors.{show_error_text}
use Rattle.cli_filters.specs.declared.audit_error.AuditError.{AuditError}
use Rattle.cli_filters.specs.declared.audit_error.AuditError.TheVariants as audit
use Rattle.cli_filters.specs.declared.command_error.Cause.{Cause}
use Rattle.cli_filters.specs.declared.command_error.Cause.TheVariants.{Refused, Read, Write, Endless, Memory}
use Rattle.cli_filters.specs.declared.command_error.CommandError.{CommandError}
use Rattle.cli_filters.specs.declared.command_error.CommandError.TheVariants.{Help, Show, Encode, Audit, Capture}
use Rattle.cli_filters.specs.declared.encode_error.EncodeError.{EncodeError}
use Rattle.cli_filters.specs.declared.encode_error.EncodeError.TheVariants as encode
use Rattle.cli_filters.specs.Audit.{audit_error_text}
use Rattle.cli_filters.specs.EncodeErrors.{encode_error_text}

-- The text of an error: that of its part.
abbrev pub command_error_text : CommandError → List ℕ
command_error_text Help = codes "Write"
command_error_text (Show error) = show_error_text error
command_error_text (Encode error) = encode_error_text error
command_error_text (Audit error) = audit_error_text error
command_error_text (Capture error) = capture_error_text error

-- What kind of error it is. Invalid input is `Refused`.
abbrev pub show_cause : ShowError → Cause
show_cause (show.Read read.Read) = Read
show_cause (show.Read read.Memory) = Memory
show_cause show.Write = Write
show_cause show.Endless = Endless
show_cause error = Refused

abbrev pub encode_cause : EncodeError → Cause
encode_cause (encode.Text text.Memory) = Memory
encode_cause encode.Read = Read
encode_cause encode.Write = Write
encode_cause error = Refused

abbrev pub audit_cause : AuditError → Cause
audit_cause (audit.Log log.Read) = Read
audit_cause (audit.Log log.Endless) = Endless
audit_cause (audit.Log log.Memory) = Memory
audit_cause audit.Write = Write

abbrev pub capture_cause : CaptureError → Cause
capture_cause capture.Read = Read
capture_cause capture.Write = Write
capture_cause capture.Endless = Endless
capture_cause capture.Memory = Memory
capture_cause (capture.Refused rejection) = Refused

abbrev pub command_cause : CommandError → Cause
command_cause Help = Write
command_cause (Show error) = show_cause error
command_cause (Encode error) = encode_cause error
command_cause (Audit error) = audit_cause error
command_cause (Capture error) = capture_cause error

-- 2 if the input is invalid, and 3 if I/O or an allocation failed.
abbrev pub status_of : Cause → ℕ
status_of Refused = 2
status_of cause = 3

-- Holds for an I/O error with this name.
abbrev pub IsNamed : List ℕ → ToolFault → Type 0
IsNamed name (tool.Device word) = word.now ≡ name
IsNamed name (tool.Refused words) = ⊥
IsNamed name tool.Memory = ⊥

-- Holds if an error of this kind, with this text, is converted to this one.
abbrev pub IsFaultBy : Cause → List ℕ → ToolFault → Type 0
IsFaultBy Refused text fault = IsRefusedAs text fault
IsFaultBy Read text fault = IsNamed (codes "Read") fault
IsFaultBy Write text fault = IsNamed (codes "Write") fault
IsFaultBy Endless text fault = IsNamed (codes "Endless") fault
IsFaultBy Memory text fault = fault ≡ tool.Memory

abbrev pub IsFaultOf : CommandError → ToolFault → Type 0
IsFaultOf error fault = IsFaultBy (command_cause error) (command_error_text error) fault

-- Holds for the result of a part with its value converted, and its error by kind and text.
abbrev pub Reports : {T U E : Type 0} → (T → U) → (E → Cause) → (E → List ℕ) → Result T E → Result U ToolFault → Type 0
Reports value cause text (Ok x) result = result ≡ Ok (value x)
Reports value cause text (Err error) result = (fault : ToolFault) × (result ≡ Err fault) × IsFaultBy (cause error) (text error) fault

abbrev pub ReportsShow : Result (Unit {0}) ShowError → Result (Unit {0}) ToolFault → Type 0
ReportsShow done result = Reports (λ x. x) show_cause show_error_text done result

abbrev pub ReportsEncode : Result (Unit {0}) EncodeError → Result (Unit {0}) ToolFault → Type 0
ReportsEncode done result = Reports (λ x. x) encode_cause encode_error_text done result

abbrev pub ReportsAudit : Result Verdict AuditError → Result Bool ToolFault → Type 0
ReportsAudit done result = Reports is_pass audit_cause audit_error_text done result
