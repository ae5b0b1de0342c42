-- Output to a block of bytes.
use Rattle.std.specs.Prelude.{◌≡◌, ℕ, List, ◌++◌}

-- Holds if the output's bytes, followed by the block's bytes, grew by a text: the text was appended, and nothing else
-- changed.
abbrev pub AppendsBytes : (List ℕ → Type 0) → List ℕ → (List ℕ → Type 0) → List ℕ → List ℕ → Type 0
AppendsBytes Given held GivenNow held_now text =
    (given : List ℕ) → Given given → (now : List ℕ) × GivenNow now × (now ++ held_now ≡ given ++ held ++ text)
