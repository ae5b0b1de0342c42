-- Hexadecimal digits that are read and written many at once, for private contracts.
use Rattle.std.specs.Prelude.{◌≡◌, ℕ, ◌+◌, ◌*◌, ◌%◌, ◌<◌, ◌≤◌, List, length, slice_index, unwrap_or, false, nat_lt, if◌then◌else◌}
use Rattle.hex.specs.Hex.{hex_digit_value, is_hex_digit}

-- The value of a digit, and 255 for another byte.
abbrev pub value_or_none : ℕ → ℕ
value_or_none c = unwrap_or (hex_digit_value c) 255

-- Holds if this represents a byte: the value of a digit, or a number from 16 on if it is not a digit.
abbrev pub IsValueOf : ℕ → ℕ → Type 0
IsValueOf c v = (v < 16 → v ≡ value_or_none c) × (16 ≤ v → is_hex_digit c ≡ false)

-- Holds if each of the sixteen is the value of a digit.
abbrev pub AreSmall : List ℕ → Type 0
AreSmall values = (k : ℕ) → k < 16 → slice_index values k < 16

-- Holds if two digits encode a byte.
abbrev pub IsPair : ℕ → ℕ → ℕ → Type 0
IsPair high low octet = (value_or_none high < 16) × (value_or_none low < 16) × (octet ≡ value_or_none high * 16 + value_or_none low)

-- Holds if the first `count` bytes are those that the digits encode.
abbrev pub AreRead : List ℕ → List ℕ → ℕ → Type 0
AreRead digits octets count =
    (k : ℕ) → k < count → IsPair (slice_index digits (2 * k)) (slice_index digits (2 * k + 1)) (slice_index octets k)

-- Holds if one of them is not a digit.
abbrev pub HasOther : List ℕ → Type 0
HasOther digits = (k : ℕ) × (k < length digits) × (is_hex_digit (slice_index digits k) ≡ false)

-- The digit of a value below sixteen; some byte for a greater value.
abbrev pub digit_of : ℕ → ℕ
digit_of value = (value + (if nat_lt value 10 then 48 else 87)) % 256
