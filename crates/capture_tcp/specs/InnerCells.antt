-- What only contracts of private functions use, besides the definitions of `Cells`.
use Rattle.std.specs.Prelude.{◌≡◌, ℕ, List, ◌++◌, Option}
use Rattle.capture_tcp.specs.declared.reassembly.Cell.{Cell as HeldCell}
use Rattle.capture_tcp.specs.Cells.{some_octets}

-- Holds if bytes from the front of the cells were appended to others.
abbrev pub Joins : List ℕ → List (Option HeldCell) → List ℕ → List (Option HeldCell) → Type 0
Joins octets cells new left = (moved : List ℕ) × (new ≡ octets ++ moved) × (cells ≡ some_octets moved ++ left)
