-- The sizes of numbers in bytes, and the bytes of a number that is not negative.
use Rattle.std.specs.Prelude.{ℕ, Bool, ◌==◌, ◌||◌, if◌then◌else◌, List}
use Rattle.std.specs.Int.{Width, w8, w16, w32, w64}
use Rattle.byteorder.specs.Endian.{big_bytes, big_number}
use Rattle.secs_item.specs.Decoding.{octet}
use Rattle.secs_item.specs.ShortestEncoding.{octet_alone}

-- True if a value has one, two, four or eight bytes.
abbrev pub is_width : ℕ → Bool
is_width n = (n == 1) || (n == 2) || (n == 4) || (n == 8)

abbrev pub width_of : ℕ → Width
width_of n = if n == 1 then w8 else (if n == 2 then w16 else (if n == 4 then w32 else w64))

-- The number that `n` bytes hold.
abbrev pub unsigned : ℕ → List ℕ → ℕ
unsigned n octets = if n == 1 then octet octets else big_number n octets

abbrev pub octets_of_unsigned : ℕ → ℕ → List ℕ
octets_of_unsigned n number = if n == 1 then octet_alone number else big_bytes n number
