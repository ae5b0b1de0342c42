-- Decoding of an item at the start, from left to right: its value and its length, or the first error.
use Rattle.std.specs.Prelude.{ℕ, ℤ, zero, suc, ◌/◌, Bool, not, ◌==◌, List, [], ◌∷◌, length, take, drop, slice_index}
use Rattle.std.specs.Int.{Width, w8, w16, w32, w64, byte_len, cast_signed}
use Rattle.byteorder.specs.Endian.{big_number}
use Rattle.secs_item.specs.declared.format.Format.{Format}
use Rattle.secs_item.specs.declared.format.Format.TheVariants as format
use Rattle.secs_item.specs.Item.{Values, binary, boolean, ascii, jis8, char2, i8, i1, i2, i4, f8, f4, u8, u1, u2, u4}

-- ---- values

-- The results of `one` for the consecutive chunks of `size` bytes.
abbrev pub pieces : {X : Type 0} → (List ℕ → X) → ℕ → ℕ → List ℕ → List X
pieces one size zero octets = []
pieces one size (suc n) octets = one (take size octets) ∷ pieces one size n (drop size octets)

abbrev pub each : {X : Type 0} → (List ℕ → X) → ℕ → List ℕ → List X
each one size octets = pieces one size (length octets / size) octets

abbrev pub octet : List ℕ → ℕ
octet octets = slice_index octets 0

abbrev pub truth : List ℕ → Bool
truth octets = not (slice_index octets 0 == 0)

abbrev pub signed : Width → List ℕ → ℤ
signed width octets = cast_signed width (big_number (byte_len width) octets)

abbrev pub unread : List ℕ → List ℕ
unread octets = octets

abbrev pub values_of : Format → List ℕ → Values
values_of format.List octets = binary octets
values_of format.Binary octets = binary (each octet 1 octets)
values_of format.Boolean octets = boolean (each truth 1 octets)
values_of format.Ascii octets = ascii (each octet 1 octets)
values_of format.Jis8 octets = jis8 (each octet 1 octets)
values_of format.Char2 octets = char2 (each octet 1 octets)
values_of format.I8 octets = i8 (each (signed w64) 8 octets)
values_of format.I1 octets = i1 (each (signed w8) 1 octets)
values_of format.I2 octets = i2 (each (signed w16) 2 octets)
values_of format.I4 octets = i4 (each (signed w32) 4 octets)
values_of format.F8 octets = f8 (each unread 8 octets)
values_of format.F4 octets = f4 (each unread 4 octets)
values_of format.U8 octets = u8 (each (big_number 8) 8 octets)
values_of format.U1 octets = u1 (each octet 1 octets)
values_of format.U2 octets = u2 (each (big_number 2) 2 octets)
values_of format.U4 octets = u4 (each (big_number 4) 4 octets)
