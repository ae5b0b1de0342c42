-- The checksum of a TCP segment: the ones' complement sum of the 16-bit words of a pseudo header and of the segment.
-- Modulo 65535 it is their plain sum, and a number is the sum of its 16-bit words.
use Rattle.std.specs.Prelude.{ℕ, ◌+◌, ◌*◌, ◌%◌, ◌==◌, ◌||◌, Bool, not, List, [], ◌∷◌, length}
use Rattle.capture_pcap.specs.ByteOrder.{big_at}
use Rattle.capture_pcap.specs.declared.segment.Address.{Address}
use Rattle.capture_pcap.specs.declared.segment.Address.TheVariants as address

-- The sum of the words of these bytes. A last byte alone is the high byte of a word.
unfoldable pub words_sum : List ℕ → ℕ
words_sum [] = 0
words_sum (high ∷ []) = 256 * high
words_sum (high ∷ low ∷ rest) = 256 * high + low + words_sum rest

abbrev pub address_number : Address → ℕ
address_number (address.V4 number) = number
address_number (address.V6 number) = number

-- The sum of the pseudo header: both addresses, the protocol and a length.
abbrev pub pseudo_sum : Address → Address → ℕ → ℕ
pseudo_sum source target size = address_number source + address_number target + 6 + size

-- The checksum in a segment.
abbrev pub checksum_in : List ℕ → ℕ
checksum_in segment = big_at 2 16 segment

-- True if the checksum is right: with it, the sum is zero.
abbrev pub is_right : Address → Address → List ℕ → Bool
is_right source target segment = (pseudo_sum source target (length segment) + words_sum segment) % 65535 == 0

-- True if the checksum is the sum of the pseudo header alone, with its length or without: a network card completes it
-- after the capture.
abbrev pub is_partial : Address → Address → List ℕ → Bool
is_partial source target segment =
    (checksum_in segment % 65535 == pseudo_sum source target (length segment) % 65535)
    || (checksum_in segment % 65535 == pseudo_sum source target 0 % 65535)

-- True if the receiver discards the segment. A checksum of 0 was not computed.
abbrev pub is_damaged : Address → Address → List ℕ → Bool
is_damaged source target segment =
    not ((checksum_in segment == 0) || (is_partial source target segment || is_right source target segment))
