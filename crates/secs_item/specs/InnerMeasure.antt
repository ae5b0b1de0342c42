-- What only contracts of private functions use, besides the definitions of `Measure`.
use Rattle.std.specs.Prelude.{◌≡◌, ◌==◌, ◌≤◌, ◌<◌, ℕ, zero, suc, ◌+◌, ◌-◌, ◌/◌, ◌%◌, List, slice_index, drop, if◌then◌else◌, Option, Some, None, Result, Ok, Err}
use Rattle.secs_item.specs.declared.fault.ItemFault.{ItemFault}
use Rattle.secs_item.specs.declared.format.Format.{Format}
use Rattle.secs_item.specs.declared.measure_step.Part.{Part}
use Rattle.secs_item.specs.Fault.{fault_at}
use Rattle.secs_item.specs.Format.{format_with_code, is_list, value_size}
use Rattle.secs_item.specs.Header.{Reason, Head}
use Rattle.secs_item.specs.InnerDecoding.{Fault, elements_by, item_at}

-- The part at an offset.
abbrev pub part_from : ℕ → Result Head Reason → Result Part ItemFault
part_from place (Ok head) =
    Ok (if is_list head.format then record { end = place + head.size; elements = head.length } else record { end = place + head.size + head.length; elements = 0 })
part_from place (Err reason) = Err (fault_at place reason)

-- The format of a header's first byte, if one length byte follows.
abbrev pub short_format : ℕ → Option Format
short_format first = if first % 4 == 1 then format_with_code (first / 4) else None

-- For a format: the size of one value in bytes, less one, and 8 for a list. Without a format: the code of a dot.
abbrev pub mask_for : Option Format → ℕ
mask_for None = 0x2E
mask_for (Some format) = if is_list format then 8 else (value_size format - 1)

-- The properties of a part that is read at an offset of an input of `octets` bytes.
pub record LiesIn (depth place octets : ℕ) (part : Part) : Type 0 where
  pub deep_enough : 0 < part.elements → 0 < depth
  pub subsequent : place < part.end
  pub within : part.end ≤ octets

-- The offset after what is read at an offset.
abbrev pub end_from : {A : Type 0} → ℕ → Result (A × ℕ) Fault → Result ℕ ItemFault
end_from place (Ok x) = Ok (place + x.1)
end_from place (Err f) = Err (fault_at (place + f.at) f.reason)

-- Continues from the end offset with `next`, or keeps the error.
abbrev pub and_from_there : Result ℕ ItemFault → (ℕ → Result ℕ ItemFault) → Result ℕ ItemFault
and_from_there (Ok end) next = next end
and_from_there (Err fault) next = Err fault

-- The offset after the outermost of `lists` unfinished lists. The header of the outermost one was allowed `depth`. A
-- list in which lists may be nested `d` deep has `counts[d]` elements still to come.
unfoldable pub end_of_lists : List ℕ → ℕ → List ℕ → ℕ → ℕ → Result ℕ ItemFault
end_of_lists counts depth octets zero place = Ok place
end_of_lists counts depth octets (suc lists) place =
    and_from_there (end_from place (elements_by (item_at (depth - suc lists)) (slice_index counts (depth - suc lists)) (drop place octets))) (end_of_lists counts depth octets lists)

-- The offset after the outermost unfinished list, if the innermost list has `left` elements still to come. In the
-- innermost list, lists may be nested `inside` deep.
abbrev pub end_of_open : List ℕ → ℕ → List ℕ → ℕ → ℕ → ℕ → Result ℕ ItemFault
end_of_open counts depth octets inside left place =
    and_from_there (end_from place (elements_by (item_at inside) left (drop place octets))) (end_of_lists counts depth octets (depth - 1 - inside))

-- Holds if this value is read at the offset, and its encoding ends at `end`.
abbrev pub EndsAt : {A : Type 0} → ℕ → Result (A × ℕ) Fault → A → ℕ → Type 0
EndsAt place read v end = (n : ℕ) × (read ≡ Ok (v, n)) × (end ≡ place + n)
