-- What only contracts of private functions use, besides the definitions of `ShortestEncoding`.
use Rattle.std.specs.Prelude.{◌≡◌, ℕ, List, [], ◌++◌, Option, Some}
use Rattle.secs_item.specs.Item.{Value, list, values}
use Rattle.secs_item.specs.ShortestEncoding.{short_body}

-- ---- items

-- Holds if there is an encoding, and it was appended.
abbrev pub Appends : Option (List ℕ) → List ℕ → List ℕ → Type 0
Appends encoded_form old new = (octets : List ℕ) × (encoded_form ≡ Some octets) × (new ≡ old ++ octets)

-- The bytes of an item's values; a list has none.
abbrev pub body_of : Value → List ℕ
body_of (list es) = []
body_of (values v) = short_body v
