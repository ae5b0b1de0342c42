-- What only contracts of private functions use, besides the definitions of `Command`.
use Rattle.std.specs.Prelude.{◌≡◌, ◌≤◌, ◌+◌, ◌-◌, ◌^◌, length, min, List, ℕ, Option, Some, Result, Ok, Err}
use Rattle.hsms_frame.specs.Io.{IfRecorded}
use Rattle.capture_errors.specs.declared.capture_error.CaptureError.{CaptureError}
use Rattle.capture_errors.specs.declared.capture_error.CaptureError.TheVariants as error
use Rattle.capture_pcap.specs.declared.fault.FileFault.{FileFault}
use Rattle.capture_pcap.specs.declared.fault.FileFault.TheVariants as file
use Rattle.capture_errors.specs.declared.incomplete.Shortfall.{Shortfall}
use Rattle.capture_errors.specs.declared.incomplete.Shortfall.TheVariants.{File}

-- holds if at least `n` bytes were consumed between these two states of the input
abbrev pub HasPassed : ℕ → List ℕ → Option (List ℕ) → List ℕ → Option (List ℕ) → Type 0
HasPassed n ahead from now left =
    IfRecorded from (λ input. (rest : List ℕ) × (left ≡ Some rest) × (n + (length now + length rest) ≤ length ahead + length input))

-- how reading a file ends after `packets` packets: a read error, a failed allocation, or data missing from the next packet on
abbrev pub IsMissingBy : FileFault → ℕ → Result Shortfall CaptureError → Type 0
IsMissingBy fault packets (Ok shortfall) =
    (fault ≡ file.Read → ⊥) × (fault ≡ file.Memory → ⊥) × (shortfall ≡ File fault (min (packets + 1) (2 ^ 64 - 1)))
IsMissingBy fault packets (Err error.Read) = fault ≡ file.Read
IsMissingBy fault packets (Err error.Memory) = fault ≡ file.Memory
IsMissingBy fault packets (Err emitted) = ⊥

-- holds unless a read failed, or the capture has more blocks than are counted
abbrev pub IsNoRead : CaptureError → Type 0
IsNoRead error.Read = ⊥
IsNoRead error.Endless = ⊥
IsNoRead fault = Unit {0}
