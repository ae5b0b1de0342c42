-- The range of a program: numbers within their types, and counts of 64 bits (project-specific).
use Rattle.std.specs.Prelude.{◌≡◌, ◌<◌, ◌≤◌, ℕ, ◌^◌, List, length, slice_index, MatchOption}
use Rattle.std.specs.List.{AllByRecursion}
use Rattle.std.specs.Int.Signed.{mag}
use Rattle.secs_item.specs.Item.{Value, list, values, Elements, no_elements, element, count_of}
use Rattle.secs_text.specs.Body.{WordEncoding, hex_octet, truth_letter, signed_number, unsigned_number, hex_float, IsEncoded, Body, in_text, in_words, body_of}
use Rattle.secs_text.specs.Content.{Content}

abbrev pub IsOctets : List ℕ → Type 0
IsOctets octets = (k : ℕ) → slice_index octets k < 256

-- Holds if a program can represent the value of such a word.
abbrev pub Fits : (s : WordEncoding) → IsEncoded s → Type 0
Fits hex_octet n = n < 256
Fits truth_letter b = Unit {0}
Fits (signed_number half) z = (half ≤ 2 ^ 63) × (mag z < half)
Fits (unsigned_number limit) n = (limit ≤ 2 ^ 64) × (n < limit)
Fits (hex_float size) octets = (length octets ≡ size) × IsOctets octets

abbrev pub BodyIsHeld : Body → Type 0
BodyIsHeld (in_text octets) = IsOctets octets
BodyIsHeld (in_words s xs) = AllByRecursion (Fits s) xs

abbrev mutual
  -- Holds if a program can represent the elements or values of the item.
  pub InnerIsHeld : Value → Type 0
  InnerIsHeld (list es) = AllHeld es
  InnerIsHeld (values v) = BodyIsHeld (body_of v)

  pub AllHeld : Elements → Type 0
  AllHeld no_elements = Unit {0}
  AllHeld (element v es) = (count_of v < 2 ^ 64) × InnerIsHeld v × AllHeld es

abbrev pub IsHeld : Value → Type 0
IsHeld v = (count_of v < 2 ^ 64) × InnerIsHeld v

-- Holds if a program can represent the message.
pub record IsHeldMessage (m : Content) : Type 0 where
  pub stream : m.stream < 128
  pub function : m.function < 256
  pub item : MatchOption m.item (Unit {0}) IsHeld
