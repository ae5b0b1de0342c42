-- What only contracts of private functions use, besides the definitions of `Connection`.
use Rattle.std.specs.Prelude.{◌≡◌, ◌++◌, ℕ, Bool, true, false, List, ◌∷◌}
use Rattle.hsms_log.specs.Lines.{HasNone}

-- Holds if this is the first line of a text, and what follows it. Nothing follows a line that ends the text.
abbrev pub IsFirstLine : List ℕ → List ℕ → List ℕ → Bool → Type 0
IsFirstLine text line left false = (text ≡ line ++ 10 ∷ left) × HasNone 10 line
IsFirstLine text line left true = (text ≡ line) × HasNone 10 line
