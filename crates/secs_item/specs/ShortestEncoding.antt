-- The shortest encoding of a value, which is project-specific: the fewest length bytes, and 1 for true.
use Rattle.std.specs.Prelude.{◌≡◌, ℕ, ℤ, ◌*◌, ◌^◌, Bool, nat_lt, if◌then◌else◌, List, [], ◌∷◌, ◌++◌, Option, Some, None, option_and_then, option_map}
use Rattle.std.specs.List.{flat_map}
use Rattle.std.specs.Int.{Width, byte_len, cast_unsigned, w8, w16, w32, w64}
use Rattle.byteorder.specs.Endian.{big_bytes}
use Rattle.secs_item.specs.declared.format.Format.{Format}
use Rattle.secs_item.specs.declared.format.Format.TheVariants as format
use Rattle.secs_item.specs.Item.{Value, list, values, Values, binary, boolean, ascii, jis8, char2, i1, i2, i4, i8, u1, u2, u4, u8, f4, f8, Elements, no_elements, element, count, format_of_values, count_of_values, ValuesInRange}
use Rattle.secs_item.specs.Format.{value_size}
use Rattle.secs_item.specs.Encoding.{header}

-- ---- the bytes of one value

abbrev pub octet_alone : ℕ → List ℕ
octet_alone n = n ∷ []

abbrev pub octet_of_truth : Bool → List ℕ
octet_of_truth truth = (if truth then 1 else 0) ∷ []

abbrev pub octets_of_signed : Width → ℤ → List ℕ
octets_of_signed width z = big_bytes (byte_len width) (cast_unsigned width z)

abbrev pub unread : List ℕ → List ℕ
unread float = float

-- ---- bodies

abbrev pub short_body : Values → List ℕ
short_body (binary xs) = flat_map octet_alone xs
short_body (boolean xs) = flat_map octet_of_truth xs
short_body (ascii xs) = flat_map octet_alone xs
short_body (jis8 xs) = flat_map octet_alone xs
short_body (char2 xs) = flat_map octet_alone xs
short_body (i1 xs) = flat_map (octets_of_signed w8) xs
short_body (i2 xs) = flat_map (octets_of_signed w16) xs
short_body (i4 xs) = flat_map (octets_of_signed w32) xs
short_body (i8 xs) = flat_map (octets_of_signed w64) xs
short_body (u1 xs) = flat_map octet_alone xs
short_body (u2 xs) = flat_map (big_bytes 2) xs
short_body (u4 xs) = flat_map (big_bytes 4) xs
short_body (u8 xs) = flat_map (big_bytes 8) xs
short_body (f4 xs) = flat_map unread xs
short_body (f8 xs) = flat_map unread xs

-- ---- items

-- The fewest length bytes that hold the number.
abbrev pub field_of : ℕ → ℕ
field_of number = if nat_lt number 256 then 1 else (if nat_lt number (256 ^ 2) then 2 else 3)

-- The encoding with its header. There is none if three length bytes cannot hold the number.
abbrev pub framed : Format → ℕ → List ℕ → Option (List ℕ)
framed format number body = if nat_lt number (256 ^ 3) then Some (header format (field_of number) number ++ body) else None

abbrev mutual
  pub short : Value → Option (List ℕ)
  short (list es) = option_and_then (λ body. framed format.List (count es) body) (short_elements es)
  short (values v) = framed (format_of_values v) (value_size (format_of_values v) * count_of_values v) (short_body v)

  pub short_elements : Elements → Option (List ℕ)
  short_elements no_elements = Some []
  short_elements (element v es) = option_and_then (λ first. option_map (λ others. first ++ others) (short_elements es)) (short v)

-- Holds if the bytes are those of an item's values, which are in range; a list has none.
abbrev pub IsBodyOf : Value → List ℕ → Type 0
IsBodyOf (list es) octets = octets ≡ []
IsBodyOf (values v) octets = (octets ≡ short_body v) × ValuesInRange v
