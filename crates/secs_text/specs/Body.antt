-- The values of an item, by the way that words represent them (project-specific notation).
use Rattle.std.specs.Prelude.{ℕ, ℤ, ◌^◌, Bool, List, [], Option}
use Rattle.secs_item.specs.declared.format.Format.{Format}
use Rattle.secs_item.specs.declared.format.Format.TheVariants as format
use Rattle.secs_item.specs.Item.{Value, list, values, Values, binary, boolean, ascii, jis8, char2, i1, i2, i4, i8, u1, u2, u4, u8, f4, f8, no_elements}
use Rattle.secs_text.specs.Words.{number_below, signed_below, octet_of, float_of, truth_of}

-- The way that a word represents a value.
pub data WordEncoding : Type 0 where
  hex_octet : WordEncoding
  truth_letter : WordEncoding
  -- A number that is at least `-half` and below `half`.
  signed_number : ℕ → WordEncoding
  -- A number below a limit.
  unsigned_number : ℕ → WordEncoding
  -- A float with the given number of bytes.
  hex_float : ℕ → WordEncoding

-- The type of the values that such a word represents.
abbrev pub IsEncoded : WordEncoding → Type 0
IsEncoded hex_octet = ℕ
IsEncoded truth_letter = Bool
IsEncoded (signed_number half) = ℤ
IsEncoded (unsigned_number limit) = ℕ
IsEncoded (hex_float size) = List ℕ

-- The value that a word represents, if it represents one.
abbrev pub encoded_bytes : (s : WordEncoding) → List ℕ → Option (IsEncoded s)
encoded_bytes hex_octet w = octet_of w
encoded_bytes truth_letter w = truth_of w
encoded_bytes (signed_number half) w = signed_below half w
encoded_bytes (unsigned_number limit) w = number_below limit w
encoded_bytes (hex_float size) w = float_of size w

-- The body of an item: text bytes, or values that are one word each.
pub data Body : Type 0 where
  in_text : List ℕ → Body
  in_words : (s : WordEncoding) → List (IsEncoded s) → Body

abbrev pub body_of : Values → Body
body_of (binary xs) = in_words hex_octet xs
body_of (boolean xs) = in_words truth_letter xs
body_of (ascii xs) = in_text xs
body_of (jis8 xs) = in_words hex_octet xs
body_of (char2 xs) = in_words hex_octet xs
body_of (i1 xs) = in_words (signed_number (2 ^ 7)) xs
body_of (i2 xs) = in_words (signed_number (2 ^ 15)) xs
body_of (i4 xs) = in_words (signed_number (2 ^ 31)) xs
body_of (i8 xs) = in_words (signed_number (2 ^ 63)) xs
body_of (u1 xs) = in_words (unsigned_number (2 ^ 8)) xs
body_of (u2 xs) = in_words (unsigned_number (2 ^ 16)) xs
body_of (u4 xs) = in_words (unsigned_number (2 ^ 32)) xs
body_of (u8 xs) = in_words (unsigned_number (2 ^ 64)) xs
body_of (f4 xs) = in_words (hex_float 4) xs
body_of (f8 xs) = in_words (hex_float 8) xs

-- The empty item of a format.
abbrev pub nothing_of : Format → Value
nothing_of format.List = list no_elements
nothing_of format.Binary = values (binary [])
nothing_of format.Boolean = values (boolean [])
nothing_of format.Ascii = values (ascii [])
nothing_of format.Jis8 = values (jis8 [])
nothing_of format.Char2 = values (char2 [])
nothing_of format.I1 = values (i1 [])
nothing_of format.I2 = values (i2 [])
nothing_of format.I4 = values (i4 [])
nothing_of format.I8 = values (i8 [])
nothing_of format.U1 = values (u1 [])
nothing_of format.U2 = values (u2 [])
nothing_of format.U4 = values (u4 [])
nothing_of format.U8 = values (u8 [])
nothing_of format.F4 = values (f4 [])
nothing_of format.F8 = values (f8 [])
