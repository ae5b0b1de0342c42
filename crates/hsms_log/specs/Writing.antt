-- The effect of a call that writes these bytes.
use Rattle.std.specs.Prelude.{ℕ, List, Option, Result, Ok, Err}
use Rattle.hsms_frame.specs.Io.{Grows, GrowsByFront}

-- Holds if all of the bytes were written, or a prefix of them and the sink failed.
abbrev pub Puts : {F : Type 0} → Result (Unit {0}) F → Option (List ℕ) → Option (List ℕ) → List ℕ → Type 0
Puts (Ok _) old new octets = Grows old new octets
Puts (Err _) old new octets = GrowsByFront old new octets
