-- What only contracts of private functions use, besides the definitions of `Auditing`.
use Rattle.std.specs.Prelude.{◌≡◌, ◌++◌, ℕ, List, Option, Some}
use Rattle.hsms_frame.specs.Io.{IfRecorded}
use Rattle.hsms_log.specs.LineReader.{Reading, StateInvariant}

-- For private contracts: holds if the reader is in its state after what was read of an input. No line of that fails so
-- far.
abbrev pub HasRead : Option (List ℕ) → Reading → Option (List ℕ) → Type 0
HasRead old reader new =
    IfRecorded old (λ input. (text rest : List ℕ) × (input ≡ text ++ rest) × (new ≡ Some rest) × StateInvariant reader text)
