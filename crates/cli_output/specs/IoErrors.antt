-- I/O errors of the command: what was read of an input, the name of an error, and how often a reader or writer failed.
use Rattle.std.specs.Prelude.{◌≡◌, ◌≢◌, ◌⊎◌, ◌++◌, ℕ, List, codes, Option, Some, Result, Ok, Err}
use Rattle.hsms_frame.specs.CallCounts.{next_count}
use Rattle.cli_options.specs.declared.fault.ToolFault.{ToolFault}
use Rattle.cli_options.specs.declared.fault.ToolFault.TheVariants.{Refused, Device, Memory}

-- Holds if some bytes of an input were consumed, and the others are left.
abbrev pub LeavesPart : List ℕ → Option (List ℕ) → Type 0
LeavesPart input left = (taken rest : List ℕ) × (input ≡ taken ++ rest) × (left ≡ Some rest)

-- Holds if a reader or writer failed once in a call that returns this name, and not in any other call.
abbrev pub CountsFailure : {T : Type 0} → List ℕ → Result T ToolFault → ℕ → ℕ → Type 0
CountsFailure word (Ok _) old new = new ≡ old
CountsFailure word (Err (Refused _)) old new = new ≡ old
CountsFailure word (Err Memory) old new = new ≡ old
CountsFailure word (Err (Device given)) old new =
    ((given.now ≡ word) × (new ≡ next_count old)) ⊎ ((given.now ≢ word) × (new ≡ old))

-- Holds if a write failed.
abbrev pub IsWrite : ToolFault → Type 0
IsWrite (Device word) = word.now ≡ codes "Write"
IsWrite (Refused _) = ⊥
IsWrite Memory = ⊥

-- Holds if an I/O error is a failed read or a failed write, or the input is larger than the command accepts.
abbrev pub IsReadWriteOrEndless : ToolFault → Type 0
IsReadWriteOrEndless (Device word) = (word.now ≡ codes "Read") ⊎ (word.now ≡ codes "Write") ⊎ (word.now ≡ codes "Endless")
IsReadWriteOrEndless (Refused _) = Unit {0}
IsReadWriteOrEndless Memory = Unit {0}
