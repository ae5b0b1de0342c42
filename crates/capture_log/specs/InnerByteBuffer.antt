-- What only contracts of private functions use, besides the definitions of `ByteBuffer`.
use Rattle.std.specs.Prelude.{◌≡◌, ◌++◌, ℕ, List}

-- the octets that were there, and perhaps more behind them
abbrev pub Leads : List ℕ → List ℕ → Type 0
Leads old new = (subsequent : List ℕ) × (new ≡ old ++ subsequent)
