-- The statuses of the command, and the texts of its errors.
use Rattle.std.specs.Prelude.{◌≡◌, ℕ, Bool, true, false, List, codes, string_bytes, Result, Ok, Err}
use Rattle.cli_options.specs.declared.fault.ToolFault.{ToolFault}
use Rattle.cli_options.specs.declared.fault.ToolFault.TheVariants.{Refused, Device, Memory}

-- 2 if the input or the command line is invalid, 3 if I/O or an allocation failed.
abbrev pub status_of : ToolFault → ℕ
status_of (Refused words) = 2
status_of (Device word) = 3
status_of Memory = 3

-- 0 after success, 1 if a log fails its audit, otherwise the status of the error.
abbrev pub exit_status_of : Result Bool ToolFault → ℕ
exit_status_of (Ok true) = 0
exit_status_of (Ok false) = 1
exit_status_of (Err fault) = status_of fault

-- The text of an error.
abbrev pub fault_text : ToolFault → List ℕ
fault_text (Refused words) = string_bytes words
fault_text (Device word) = word.now
fault_text Memory = codes "Memory"

-- Holds if the input is invalid with this text, unless an allocation failed for the text.
abbrev pub IsRefusedAs : List ℕ → ToolFault → Type 0
IsRefusedAs words (Refused given) = string_bytes given ≡ words
IsRefusedAs words (Device word) = ⊥
IsRefusedAs words Memory = Unit {0}

-- Holds if the input is invalid with this text, and P holds of it, unless an allocation failed.
abbrev pub IsRefusedFor : Type 0 → List ℕ → ToolFault → Type 0
IsRefusedFor P words (Refused given) = (string_bytes given ≡ words) × P
IsRefusedFor P words (Device word) = ⊥
IsRefusedFor P words Memory = Unit {0}
