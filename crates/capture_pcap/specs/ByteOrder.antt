-- Numbers in bytes.
use Rattle.std.specs.Prelude.{ℕ, List, drop}
use Rattle.byteorder.specs.Endian.{big_number, little_number}
use Rattle.capture_pcap.specs.declared.byte_order.Order.{Order}
use Rattle.capture_pcap.specs.declared.byte_order.Order.TheVariants as order

-- The number in the first n bytes.
abbrev pub number_in : Order → ℕ → List ℕ → ℕ
number_in order.Big n octets = big_number n octets
number_in order.Little n octets = little_number n octets

-- The number in the n bytes at an offset, the highest byte first.
abbrev pub big_at : ℕ → ℕ → List ℕ → ℕ
big_at n at octets = big_number n (drop at octets)
