-- The errors of `hsms show`: their texts, and how often a read or a write failed.
use Rattle.std.specs.Prelude.{◌++◌, ℕ, List, codes, decimal, Result, Ok, Err}
use Rattle.hsms_frame.specs.CallCounts.{next_count}
use Rattle.hsms_frame.specs.Fault.{read_fault_text}
use Rattle.hsms_frame.specs.declared.fault.ReadFault.{ReadFault}
use Rattle.hsms_frame.specs.declared.fault.ReadFault.TheVariants as read
use Rattle.cli_show.specs.declared.show_error.ShowError.{ShowError}
use Rattle.cli_show.specs.declared.show_error.ShowError.TheVariants.{Read, NoHex, NoMessage, Write, Endless}

-- The name of an error, and its number.
abbrev pub show_error_text : ShowError → List ℕ
show_error_text (Read fault) = read_fault_text fault
show_error_text (NoHex line) = codes "NoHex line=" ++ decimal line
show_error_text (NoMessage line) = codes "NoMessage line=" ++ decimal line
show_error_text Write = codes "Write"
show_error_text Endless = codes "Endless"

-- How often a source has failed after this error.
abbrev pub failures_by : ReadFault → ℕ → ℕ
failures_by read.Read n = next_count n
failures_by fault n = n

-- How often a source has failed, by the result.
abbrev pub reads_after : {T : Type 0} → Result T ShowError → ℕ → ℕ
reads_after (Ok _) n = n
reads_after (Err (Read fault)) n = failures_by fault n
reads_after (Err error) n = n

-- How often a sink has failed, by the result.
abbrev pub writes_after : {T : Type 0} → Result T ShowError → ℕ → ℕ
writes_after (Ok _) n = n
writes_after (Err Write) n = next_count n
writes_after (Err error) n = n
