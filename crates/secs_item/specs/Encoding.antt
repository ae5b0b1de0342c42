-- The encodings of a value by SEMI E5 (data structures): a format byte, a length field of one to three bytes, and the
-- body. The rule that a text is empty or one item is project-specific.
use Rattle.std.specs.Prelude.{◌≡◌, ◌≤◌, ◌<◌, ℕ, ℤ, take, ◌+◌, ◌*◌, ◌^◌, Bool, not, ◌==◌, List, [], ◌∷◌, ◌++◌, length, slice_index, Option, Some, None, FitsSigned}
use Rattle.std.specs.Int.{Width, byte_len, cast_unsigned, w8, w16, w32, w64}
use Rattle.byteorder.specs.Endian.{big_bytes}
use Rattle.secs_item.specs.declared.format.Format.{Format}
use Rattle.secs_item.specs.declared.format.Format.TheVariants as format
use Rattle.secs_item.specs.Item.{Value, list, values, Values, binary, boolean, ascii, jis8, char2, i8, i1, i2, i4, f8, f4, u8, u1, u2, u4, Elements, no_elements, element, count, nest, format_of_values}
use Rattle.secs_item.specs.Format.{code_of}

-- ---- one value

abbrev pub IsOctets : List ℕ → Type 0
IsOctets octets = (i : ℕ) → slice_index octets i < 256

abbrev pub Octet : ℕ → List ℕ → Type 0
Octet n octets = (n < 256) × (octets ≡ n ∷ [])

-- Holds if the byte encodes the truth value: every byte except zero is true.
abbrev pub Truth : Bool → List ℕ → Type 0
Truth truth octets = (octet : ℕ) × (octet < 256) × (octets ≡ octet ∷ []) × (truth ≡ not (octet == 0))

-- Holds if the bytes encode the number, most significant byte first.
abbrev pub Unsigned : ℕ → ℕ → List ℕ → Type 0
Unsigned size n octets = (n < 256 ^ size) × (octets ≡ big_bytes size n)

-- Holds if the bytes encode the number in two's complement.
abbrev pub Signed : Width → ℤ → List ℕ → Type 0
Signed width z octets = FitsSigned width z × (octets ≡ big_bytes (byte_len width) (cast_unsigned width z))

-- Holds if the bytes are the float's, which is not interpreted.
abbrev pub Unread : ℕ → List ℕ → List ℕ → Type 0
Unread size float octets = (length float ≡ size) × IsOctets float × (octets ≡ float)

-- ---- bodies

-- Holds if the bytes are those of the values, in order.
abbrev pub InOrder : {X : Type 0} → (X → List ℕ → Type 0) → List X → List ℕ → Type 0
InOrder One [] octets = octets ≡ []
InOrder One (x ∷ xs) octets = (first rest : List ℕ) × One x first × InOrder One xs rest × (octets ≡ first ++ rest)

abbrev pub Body : Values → List ℕ → Type 0
Body (binary xs) octets = InOrder Octet xs octets
Body (boolean xs) octets = InOrder Truth xs octets
Body (ascii xs) octets = InOrder Octet xs octets
Body (jis8 xs) octets = InOrder Octet xs octets
Body (char2 xs) octets = InOrder Octet xs octets
Body (i8 xs) octets = InOrder (Signed w64) xs octets
Body (i1 xs) octets = InOrder (Signed w8) xs octets
Body (i2 xs) octets = InOrder (Signed w16) xs octets
Body (i4 xs) octets = InOrder (Signed w32) xs octets
Body (f8 xs) octets = InOrder (Unread 8) xs octets
Body (f4 xs) octets = InOrder (Unread 4) xs octets
Body (u8 xs) octets = InOrder (Unsigned 8) xs octets
Body (u1 xs) octets = InOrder Octet xs octets
Body (u2 xs) octets = InOrder (Unsigned 2) xs octets
Body (u4 xs) octets = InOrder (Unsigned 4) xs octets

-- ---- items

-- The header: the format code and the number of length bytes, then the length, most significant byte first.
abbrev pub header : Format → ℕ → ℕ → List ℕ
header format field number = (4 * code_of format + field) ∷ big_bytes field number

-- Holds if the bytes are a header whose length field has one to three bytes, and then the body.
pub record Framed (format : Format) (number : ℕ) (body octets : List ℕ) : Type 0 where
  pub field : ℕ
  pub one_at_least : 1 ≤ field
  pub three_at_most : field ≤ 3
  pub fits : number < 256 ^ field
  pub parts : octets ≡ header format field number ++ body

abbrev mutual
  pub EncodesTo : Value → List ℕ → Type 0
  EncodesTo (list es) octets = (body : List ℕ) × AllEncoded es body × Framed format.List (count es) body octets
  EncodesTo (values v) octets = (body : List ℕ) × Body v body × Framed (format_of_values v) (length body) body octets

  -- Holds if the bytes are the encodings of the elements, in order.
  pub AllEncoded : Elements → List ℕ → Type 0
  AllEncoded no_elements octets = octets ≡ []
  AllEncoded (element v es) octets = (first rest : List ℕ) × EncodesTo v first × AllEncoded es rest × (octets ≡ first ++ rest)

-- Holds if the first `n` bytes encode the value, and its lists are nested at most `depth` deep.
pub record IsAtFront (depth : ℕ) (octets : List ℕ) (v : Value) (n : ℕ) : Type 0 where
  pub within : n ≤ length octets
  pub encodes_to : EncodesTo v (take n octets)
  pub nesting : nest v ≤ depth

-- Holds if all bytes encode the value, with lists at most `depth` deep.
abbrev pub IsWhole : ℕ → List ℕ → Value → Type 0
IsWhole depth octets v = EncodesTo v octets × (nest v ≤ depth)

-- Holds if the message text is empty, or is one item.
abbrev pub IsTextOf : ℕ → List ℕ → Option Value → Type 0
IsTextOf depth octets None = octets ≡ []
IsTextOf depth octets (Some v) = IsWhole depth octets v

abbrev pub IsText : ℕ → List ℕ → Type 0
IsText depth octets = (item : Option Value) × IsTextOf depth octets item
