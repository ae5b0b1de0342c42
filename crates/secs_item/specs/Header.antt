-- Item headers of SEMI E5 (data structures), and the first error of a header. The order of errors is project-specific.
use Rattle.std.specs.Prelude.{ℕ, ◌+◌, ◌-◌, ◌/◌, ◌%◌, ◌&&◌, not, List, [], ◌∷◌, length, Option, Some, None, Result, Ok, Err, nat_lt, ◌==◌, if◌then◌else◌}
use Rattle.byteorder.specs.Endian.{big_number}
use Rattle.secs_item.specs.declared.format.Format.{Format}
use Rattle.secs_item.specs.Format.{format_with_code, value_size, is_list}

-- The reason why bytes are not an item.
pub data Reason : Type 0 where
  no_length : Reason
  bad_format : Reason
  deep : Reason
  ragged : Reason
  truncated : Reason
  trailing : Reason

-- A header: the format of the item, the size of the header in bytes, and the number in its length field.
pub record Head : Type 0 where
  pub format : Format
  pub size : ℕ
  pub length : ℕ

-- Checks a body of values: its length is a multiple of the size of a value, and that number of bytes is present.
abbrev pub checked_body : Format → ℕ → ℕ → ℕ → Result Head Reason
checked_body format field number left =
    if is_list format then Ok (record { format = format; size = 1 + field; length = number }) else
    (if not (number % value_size format == 0) then Err ragged else
    (if nat_lt left number then Err truncated else Ok (record { format = format; size = 1 + field; length = number })))

abbrev pub checked_field : ℕ → Format → ℕ → List ℕ → Result Head Reason
checked_field depth format field rest =
    if is_list format && (depth == 0) then Err deep else
    (if nat_lt (length rest) field then Err truncated else
    checked_body format field (big_number field rest) (length rest - field))

abbrev pub with_format : ℕ → Option Format → ℕ → List ℕ → Result Head Reason
with_format depth None field rest = Err bad_format
with_format depth (Some format) field rest = checked_field depth format field rest

-- The header at the start, or its first error, where lists may be nested at most `depth` deep. Bits 8 to 3 of the first
-- byte are the format code, bits 2 and 1 the number of length bytes.
unfoldable pub header_at : ℕ → List ℕ → Result Head Reason
header_at depth [] = Err truncated
header_at depth (first ∷ rest) =
    if first % 4 == 0 then Err no_length else with_format depth (format_with_code (first / 4)) (first % 4) rest
