-- Bytes that are buffered before a sink.
use Rattle.std.specs.Prelude.{◌≡◌, ◌++◌, ℕ, List, Option, Result, Ok, Err}
use Rattle.hsms_frame.specs.Io.{Grows, GrowsByFront}
use Rattle.hsms_frame.specs.Frame.{Frame}
use Rattle.hsms_frame.specs.declared.io.Failed.{Failed}
use Rattle.cli_output.specs.Line.{LineOf}

-- Holds if the bytes in a sink and the buffered bytes after them together grew by a text.
abbrev pub GrowsHolding : Option (List ℕ) → List ℕ → Option (List ℕ) → List ℕ → List ℕ → Type 0
GrowsHolding old held new now text = (put : List ℕ) × (put ++ now ≡ held ++ text) × Grows old new put

-- Holds if a line was appended to the buffer, or a write failed within the two.
abbrev pub AppendsText : List ℕ → Result (Unit {0}) Failed → Option (List ℕ) → List ℕ → Option (List ℕ) → List ℕ → Type 0
AppendsText line (Ok _) old held new now = GrowsHolding old held new now line
AppendsText line (Err _) old held new now = GrowsByFront old new (held ++ line)

-- Holds if the line of a message was appended, or a write failed.
abbrev pub AppendsLine : ℕ → Frame → Result (Unit {0}) Failed → Option (List ℕ) → List ℕ → Option (List ℕ) → List ℕ → Type 0
AppendsLine depth f result old held new now = (line : List ℕ) × LineOf depth f line × AppendsText line result old held new now
