-- The errors of `hsms encode`: their texts, and how often a read or a write failed.
use Rattle.std.specs.Prelude.{◌++◌, ℕ, List, codes, decimal, Result, Ok, Err}
use Rattle.hsms_frame.specs.CallCounts.{next_count}
use Rattle.secs_text.specs.declared.fault.TextFault.{TextFault}
use Rattle.secs_text.specs.declared.fault.TextFault.TheVariants as text
use Rattle.cli_filters.specs.declared.encode_error.EncodeError.{EncodeError}
use Rattle.cli_filters.specs.declared.encode_error.EncodeError.TheVariants.{Input, Text, Frame, Read, Write}
use Rattle.cli_filters.specs.declared.encode_error.Refusal.{Refusal}
use Rattle.cli_filters.specs.declared.encode_error.Refusal.TheVariants.{TooLarge, TooLong}

-- The name of an error of notation, and its position.
abbrev pub text_fault_text : TextFault → List ℕ
text_fault_text (text.Syntax at) = codes "Syntax at=" ++ decimal at
text_fault_text (text.Number at) = codes "Number at=" ++ decimal at
text_fault_text (text.Count at) = codes "Count at=" ++ decimal at
text_fault_text (text.Deep at) = codes "Deep at=" ++ decimal at
text_fault_text text.Memory = codes "Memory"

-- The name of an error, and its number.
abbrev pub encode_error_text : EncodeError → List ℕ
encode_error_text Input = codes "Input"
encode_error_text (Text fault) = text_fault_text fault
encode_error_text (Frame TooLarge) = codes "TooLarge"
encode_error_text (Frame (TooLong length)) = codes "TooLong length=" ++ decimal length
encode_error_text Read = codes "Read"
encode_error_text Write = codes "Write"

-- How often a source has failed, by the result.
abbrev pub reads_after : {T : Type 0} → Result T EncodeError → ℕ → ℕ
reads_after (Ok _) n = n
reads_after (Err Read) n = next_count n
reads_after (Err error) n = n

-- How often a sink has failed, by the result.
abbrev pub writes_after : {T : Type 0} → Result T EncodeError → ℕ → ℕ
writes_after (Ok _) n = n
writes_after (Err Write) n = next_count n
writes_after (Err error) n = n
