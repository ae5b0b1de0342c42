-- What only contracts of private functions use, besides the definitions of `ShowErrors`.
use Rattle.std.specs.Prelude.{ℕ, Result, Ok, Err}
use Rattle.hsms_frame.specs.declared.fault.ReadFault.{ReadFault}
use Rattle.cli_show.specs.ShowErrors.{failures_by}

-- How often a source has failed, by the result of a read.
abbrev pub failures_after : {T : Type 0} → Result T ReadFault → ℕ → ℕ
failures_after (Ok _) n = n
failures_after (Err fault) n = failures_by fault n
