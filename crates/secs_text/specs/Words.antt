-- The values that words of the notation represent. They are project-specific.
use Rattle.std.specs.Prelude.{ℕ, ℤ, pos, negsuc, ◌+◌, ◌-◌, ◌*◌, Bool, true, false, ◌&&◌, ◌||◌, not, ◌==◌, nat_le, nat_lt, if◌then◌else◌, List, [], ◌∷◌, take, drop, length, Option, Some, None, option_map, option_and_then}
use Rattle.std.specs.List.{list_all, prefix_len}
use Rattle.std.specs.Str.Parse.{digits_value}
use Rattle.secs_text.specs.Octets.{is_digit}

-- ---- numbers

-- True for `0`, or for a digit 1 to 9 and any digits.
abbrev pub is_numeral : List ℕ → Bool
is_numeral [] = false
is_numeral (c ∷ cs) = list_all is_digit (c ∷ cs) && (not (c == 0x30) || (length cs == 0))

-- The number that a word represents, if it is below the limit.
unfoldable pub number_below : ℕ → List ℕ → Option ℕ
number_below limit w = if is_numeral w && nat_lt (digits_value 10 w) limit then Some (digits_value 10 w) else None

-- The negative number after a `-`.
abbrev pub negative_of : ℕ → Option ℤ
negative_of n = if n == 0 then None else Some (negsuc (n - 1))

-- The number that a word represents, if it is at least `-half` and below `half`. A `-` may precede a number other than
-- 0.
unfoldable pub signed_below : ℕ → List ℕ → Option ℤ
signed_below half [] = None
signed_below half (c ∷ cs) =
    if c == 0x2D then option_and_then negative_of (number_below (half + 1) cs)
    else option_map pos (number_below half (c ∷ cs))

-- ---- hexadecimal

-- The value of a hexadecimal digit, of either case.
abbrev pub hex_digit : ℕ → Option ℕ
hex_digit c =
    if is_digit c then Some (c - 0x30) else
    (if nat_le 0x41 c && nat_le c 0x46 then Some (c - 0x37) else
    (if nat_le 0x61 c && nat_le c 0x66 then Some (c - 0x57) else None))

abbrev pub octet_from : Option ℕ → Option ℕ → Option ℕ
octet_from (Some high) (Some low) = Some (16 * high + low)
octet_from high low = None

-- The byte that two digits represent.
abbrev pub octet_of_digits : ℕ → ℕ → Option ℕ
octet_of_digits high low = octet_from (hex_digit high) (hex_digit low)

abbrev pub octet_then : Option ℕ → Option (List ℕ) → Option (List ℕ)
octet_then (Some octet) (Some octets) = Some (octet ∷ octets)
octet_then octet octets = None

-- The bytes that pairs of hexadecimal digits represent.
abbrev pub hex_octets : List ℕ → Option (List ℕ)
hex_octets [] = Some []
hex_octets (high ∷ []) = None
hex_octets (high ∷ low ∷ digits) = octet_then (octet_of_digits high low) (hex_octets digits)

-- The bytes that a word represents: `0x`, and two digits for each byte.
unfoldable pub octets_of : List ℕ → Option (List ℕ)
octets_of (o ∷ x ∷ digits) = if (o == 0x30) && (x == 0x78) then hex_octets digits else None
octets_of w = None

abbrev pub only : List ℕ → Option ℕ
only (octet ∷ []) = Some octet
only octets = None

-- The one byte that a word represents.
unfoldable pub octet_of : List ℕ → Option ℕ
octet_of w = option_and_then only (octets_of w)

-- These bytes, if there are `size` of them.
abbrev pub sized : ℕ → List ℕ → Option (List ℕ)
sized size octets = if length octets == size then Some octets else None

-- The float of `size` bytes that a word represents.
unfoldable pub float_of : ℕ → List ℕ → Option (List ℕ)
float_of size w = option_and_then (sized size) (octets_of w)

-- ---- other words

abbrev pub is_one : ℕ → List ℕ → Bool
is_one c (d ∷ []) = d == c
is_one c w = false

-- The truth value of `T` or `F`.
unfoldable pub truth_of : List ℕ → Option Bool
truth_of w = if is_one 0x54 w then Some true else (if is_one 0x46 w then Some false else None)

-- The result of reading a word as a head.
pub data HeadWord : Type 0 where
  -- `S` digits `F` digits, with both numbers valid.
  head : ℕ → ℕ → HeadWord
  -- A number is out of range or has a leading zero.
  bad_head : HeadWord
  no_head : HeadWord

abbrev pub head_of_numbers : Option ℕ → Option ℕ → HeadWord
head_of_numbers (Some stream) (Some function) = head stream function
head_of_numbers stream function = bad_head

abbrev pub head_of_parts : List ℕ → List ℕ → HeadWord
head_of_parts stream [] = no_head
head_of_parts stream (f ∷ function) =
    if (f == 0x46) && not (length stream == 0) && not (length function == 0) && list_all is_digit function
    then head_of_numbers (number_below 128 stream) (number_below 256 function) else no_head

unfoldable pub head_word : List ℕ → HeadWord
head_word [] = no_head
head_word (s ∷ w) = if s == 0x53 then head_of_parts (take (prefix_len is_digit w) w) (drop (prefix_len is_digit w) w) else no_head
