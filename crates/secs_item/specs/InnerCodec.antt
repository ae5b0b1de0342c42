-- The codecs of the types in the code: the size of a value in bytes, the value of given bytes, the bytes of a value,
-- and the range of each value.
use Rattle.std.specs.Prelude.{◌≡◌, ◌<◌, ◌^◌, ℕ, ℤ, Bool, List, length, FitsSigned}
use Rattle.std.specs.Int.{Width, byte_len}
use Rattle.std.specs.List.{AllByRecursion}
use Rattle.byteorder.specs.Endian.{big_bytes, big_number}
use Rattle.secs_item.specs.Decoding.{truth, signed}
use Rattle.secs_item.specs.ShortestEncoding.{octet_of_truth, octets_of_signed}

pub record Codec (X : Type 0) : Type 1 where
  pub size : ℕ
  pub value_of : List ℕ → X
  pub octets_of : X → List ℕ
  pub fits : X → Type 0

abbrev pub of_truth : Codec Bool
of_truth = record { size = 1; value_of = truth; octets_of = octet_of_truth; fits = λ _. Unit {0} }

abbrev pub of_signed : Width → Codec ℤ
of_signed width = record {
  size = byte_len width;
  value_of = signed width;
  octets_of = octets_of_signed width;
  fits = FitsSigned width;
}

abbrev pub of_unsigned : ℕ → Codec ℕ
of_unsigned size = record { size = size; value_of = big_number size; octets_of = big_bytes size; fits = λ n. n < 256 ^ size }

-- The codec of bytes that are kept without interpretation.
abbrev pub of_unread : ℕ → Codec (List ℕ)
of_unread size = record {
  size = size;
  value_of = λ octets. octets;
  octets_of = λ float. float;
  fits = λ float. (length float ≡ size) × AllByRecursion (λ n. n < 256) float;
}
