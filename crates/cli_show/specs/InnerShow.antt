-- What only contracts of private functions use, besides the definitions of `Show`.
use Rattle.std.specs.Prelude.{◌≡◌, ◌<◌, ◌⊎◌, ◌++◌, ℕ, List, [], length, Bool, true, false, Option, Some, Result, Ok, Err}
use Rattle.hsms_frame.specs.declared.fault.ReadFault.{ReadFault}
use Rattle.hsms_frame.specs.Io.{Grows, GrowsByFront}
use Rattle.hsms_frame.specs.Frame.{Frame}
use Rattle.cli_output.specs.LineBuffer.{GrowsHolding}
use Rattle.cli_output.specs.IoErrors.{LeavesPart}
use Rattle.cli_output.specs.Line.{LineOf}
use Rattle.cli_show.specs.declared.show_error.ShowError.{ShowError}
use Rattle.cli_show.specs.declared.show_error.ShowError.TheVariants.{Read, Write}
use Rattle.cli_show.specs.Show.{IsStopped, Begins}

-- Holds if one message is read and its line is appended to the buffer, or there is none and the buffer was written.
abbrev pub ShowsNext : ℕ → ℕ → List ℕ → Result Bool ShowError → Option (List ℕ) → Option (List ℕ) → List ℕ → Option (List ℕ) → List ℕ → Type 0
ShowsNext max depth input (Ok true) left old held new now =
    (f : Frame) × (after line : List ℕ) × Begins max input f after × LineOf depth f line × (left ≡ Some after)
    × GrowsHolding old held new now line
ShowsNext max depth input (Ok false) left old held new now = (input ≡ []) × (left ≡ Some []) × Grows old new held
ShowsNext max depth input (Err (Read fault)) left old held new now = IsStopped max input fault left × Grows old new held
ShowsNext max depth input (Err Write) left old held new now =
    (LeavesPart input left × (0 < length held) × GrowsByFront old new held)
    ⊎ ((f : Frame) × (after line : List ℕ) × Begins max input f after × LineOf depth f line
    × LeavesPart after left × GrowsByFront old new (held ++ line))
ShowsNext max depth input (Err error) left old held new now = ⊥

-- Holds if nothing is left, or for why that is unknown: there is one more message (false), or reading stopped.
abbrev pub IsEnded : ℕ → List ℕ → Result Bool ReadFault → Option (List ℕ) → Type 0
IsEnded max input (Ok true) left = (input ≡ []) × (left ≡ Some [])
IsEnded max input (Ok false) left = (f : Frame) × (after : List ℕ) × Begins max input f after × LeavesPart after left
IsEnded max input (Err fault) left = IsStopped max input fault left
