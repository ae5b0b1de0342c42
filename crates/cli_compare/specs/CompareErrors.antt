-- The errors of `hsms compare`: their texts and kinds.
use Rattle.std.specs.Prelude.{ℕ, List, codes}
use Rattle.hsms_compare.specs.declared.reading.ReadFault.TheVariants as read
use Rattle.hsms_compare_logs.specs.declared.comparing_logs.CompareFault.{CompareFault}
use Rattle.hsms_compare_logs.specs.declared.comparing_logs.CompareFault.TheVariants as logs
use Rattle.cli_options.specs.declared.fault.ToolFault.{ToolFault}
use Rattle.cli_filters.specs.declared.command_error.Cause.{Cause}
use Rattle.cli_filters.specs.declared.command_error.Cause.TheVariants as cause
use Rattle.cli_filters.specs.CommandErrors.{IsFaultBy}
use Rattle.cli_compare.specs.declared.compare_error.CompareError.{CompareError}
use Rattle.cli_compare.specs.declared.compare_error.CompareError.TheVariants.{Logs, Write, Undecided}

abbrev pub logs_text : CompareFault → List ℕ
logs_text (logs.Log read.Read) = codes "Read"
logs_text (logs.Log read.Endless) = codes "Endless"
logs_text (logs.Log read.Memory) = codes "Memory"
logs_text logs.FirstLineOfFirst = codes "FirstLine operand=1"
logs_text logs.FirstLineOfSecond = codes "FirstLine operand=2"
logs_text logs.SameRole = codes "SameRole"
logs_text logs.SameLink = codes "SameLink"
logs_text logs.Device = codes "Device"

-- The name of an error.
abbrev pub compare_error_text : CompareError → List ℕ
compare_error_text (Logs fault) = logs_text fault
compare_error_text Write = codes "Write"
compare_error_text Undecided = codes "Undecided"

-- What kind of error it is. Logs that cannot be compared, or are undecided, are `Refused`.
abbrev pub logs_cause : CompareFault → Cause
logs_cause (logs.Log read.Read) = cause.Read
logs_cause (logs.Log read.Endless) = cause.Endless
logs_cause (logs.Log read.Memory) = cause.Memory
logs_cause fault = cause.Refused

abbrev pub compare_cause : CompareError → Cause
compare_cause (Logs fault) = logs_cause fault
compare_cause Write = cause.Write
compare_cause Undecided = cause.Refused

abbrev pub IsFaultOf : CompareError → ToolFault → Type 0
IsFaultOf error fault = IsFaultBy (compare_cause error) (compare_error_text error) fault
