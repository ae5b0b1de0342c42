-- Parts: the table of masks, and headers without errors.
use Rattle.std.proofs.Common.{◌≡◌, ℕ, ◌+◌, ◌-◌, ◌/◌, ◌%◌, ◌<◌, ◌≤◌, Bool, true, false, eqb, ltb, List, ◌∷◌, length, drop, get_or, bit_and, Option, Some, None, Result, Ok, refl, sym, ap, ◌∙◌, arith}
use Rattle.std.specs.Prelude.{◌&&◌}
use Rattle.std.proofs.lemmas.Bool.{eqb-true, le-ltb, ne_eqb, eq-eqb, agree_below_at}
use Rattle.std.proofs.lemmas.List.{drop_more, length-drop}
use Rattle.std.proofs.lemmas.Nat.{and_mask}
use Rattle.byteorder.specs.Endian.{big_number}
use Rattle.secs_item.specs.declared.measure_step.TheConstants.{MASKS}
use Rattle.secs_item.specs.declared.fault.ItemFault.{ItemFault}
use Rattle.secs_item.specs.declared.measure_step.Part.{Part}
use Rattle.secs_item.specs.declared.format.Format.{Format}
use Rattle.secs_item.specs.declared.format.Format.TheVariants as format
use Rattle.secs_item.specs.Format.{format_with_code, is_list, value_size}
use Rattle.secs_item.specs.Header.{Reason, Head, header_at}
use Rattle.secs_item.specs.InnerMeasure.{part_from, mask_for, short_format}
use Rattle.secs_item.proofs.Headers.{ok_body, is_deep}

-- ---- masks

pub masks_right : (first : ℕ) → first < 256 → get_or MASKS first 0 ≡ mask_for (short_format first)
unfolding format_with_code
masks_right first lt = eqb-true _ _ (agree_below_at (λ k. eqb (get_or MASKS k 0) (mask_for (short_format k))) (λ k. true) 256 first refl lt)

-- Only one byte begins a list with one length byte.
pub list_mask : (first : ℕ) → first < 256 → get_or MASKS first 0 ≡ 8 → first ≡ 1
list_mask first lt is =
    let same = agree_below_at (λ k. eqb (get_or MASKS k 0) 8) (λ k. eqb k 1) 256 first refl lt in
    eqb-true first 1 (sym same ∙ eq-eqb _ _ is)

-- If the mask is that of values, one length byte follows.
short_mask : (first mask : ℕ) → mask ≡ mask_for (short_format first) → mask < 8 → (first % 4 ≡ 1) × (mask ≡ mask_for (format_with_code (first / 4)))
short_mask first mask is low = by_test (eqb (first % 4) 1) refl
  where
    by_test : (b : Bool) → eqb (first % 4) 1 ≡ b → (first % 4 ≡ 1) × (mask ≡ mask_for (format_with_code (first / 4)))
    by_test true e = (eqb-true _ _ e, is ∙ rw e refl)
    by_test false e = let m : mask ≡ 0x2E = is ∙ rw e refl in absurd (omega arith)

-- A number with none of the bits of a format's mask is a multiple of the size of a value.
mask_is_size : (f : Format) (n : ℕ) → bit_and n (value_size f - 1) ≡ n % value_size f
mask_is_size format.List n = and_mask n 0
mask_is_size format.Binary n = and_mask n 0
mask_is_size format.Boolean n = and_mask n 0
mask_is_size format.Ascii n = and_mask n 0
mask_is_size format.Jis8 n = and_mask n 0
mask_is_size format.Char2 n = and_mask n 0
mask_is_size format.I8 n = and_mask n 3
mask_is_size format.I1 n = and_mask n 0
mask_is_size format.I2 n = and_mask n 1
mask_is_size format.I4 n = and_mask n 2
mask_is_size format.F8 n = and_mask n 3
mask_is_size format.F4 n = and_mask n 2
mask_is_size format.U8 n = and_mask n 3
mask_is_size format.U1 n = and_mask n 0
mask_is_size format.U2 n = and_mask n 1
mask_is_size format.U4 n = and_mask n 2

-- ---- headers without errors

faultless : (depth first : ℕ) (rest : List ℕ) (f : Format) → (first % 4 ≡ 0 → ⊥) → first % 4 ≤ length rest → format_with_code (first / 4) ≡ Some f → (is_list f ≡ true → 0 < depth)
    → (is_list f ≡ false → (big_number (first % 4) rest % value_size f ≡ 0) × (big_number (first % 4) rest ≤ length rest - first % 4))
    → header_at depth (first ∷ rest) ≡ Ok (record { format = f; size = 1 + first % 4; length = big_number (first % 4) rest })
unfolding header_at
faultless depth first rest f some long code deep whole =
    let there : eqb (first % 4) 0 ≡ false = ne_eqb (first % 4) 0 some in
    let allowed : is_list f && eqb depth 0 ≡ false = is_deep (is_list f) depth deep in
    let enough : ltb (length rest) (first % 4) ≡ false = le-ltb (length rest) (first % 4) long in
    rw (there, code, allowed, enough)
    (ok_body (is_list f) (eqb (big_number (first % 4) rest % value_size f) 0) (ltb (length rest - first % 4) (big_number (first % 4) rest)) (record { format = f; size = 1 + first % 4; length = big_number (first % 4) rest })
    (λ lists. (eq-eqb _ 0 (whole lists).0, le-ltb _ _ (whole lists).1)))

from_values : (place : ℕ) (r : Result Head Reason) (head : Head) → r ≡ Ok head → is_list head.format ≡ false → ◌≡◌ {A = Result Part ItemFault} (Ok (record { end = place + head.size + head.length; elements = 0 })) (part_from place r)
from_values place r head is lists = rw (is, lists) refl

from_list : (place : ℕ) (r : Result Head Reason) (head : Head) → r ≡ Ok head → is_list head.format ≡ true → ◌≡◌ {A = Result Part ItemFault} (Ok (record { end = place + head.size; elements = head.length })) (part_from place r)
from_list place r head is lists = rw (is, lists) refl

same_part : (x y n m : ℕ) → x ≡ y → n ≡ m → ◌≡◌ {A = Result Part ItemFault} (Ok (record { end = x; elements = n })) (Ok (record { end = y; elements = m }))
same_part x y n m xs ns = cc

-- The number in one length byte.
one_octet : (place number : ℕ) (octets : List ℕ) → place + 2 ≤ length octets → number ≡ get_or octets (place + 1) 0 → number ≡ big_number 1 (drop (place + 1) octets)
one_octet place number octets room is =
    let next = ap (λ xs. get_or xs 0 0) (drop_more octets (place + 1) 0 (omega arith)) in omega (arith, is, next)

-- A list with one length byte.
pub list_read : (depth place number : ℕ) (octets : List ℕ) → place + 2 ≤ length octets → get_or octets place 0 ≡ 1 → number ≡ get_or octets (place + 1) 0 → 0 < depth
    → ◌≡◌ {A = Result Part ItemFault} (Ok (record { end = place + 2; elements = number })) (part_from place (header_at depth (drop place octets)))
unfolding format_with_code
list_read depth place number octets room first is deep =
    let rest = drop (place + 1) octets in
    let front : drop place octets ≡ 1 ∷ rest = drop_more octets place 0 (omega arith) ∙ ap (λ x. x ∷ rest) first in
    let long : 1 ≤ length rest = omega (arith, length-drop (place + 1) octets) in
    same_part (place + 2) (place + 2) number (big_number 1 rest) refl (one_octet place number octets room is)
    ∙ from_list place (header_at depth (drop place octets)) (record { format = format.List; size = 2; length = big_number 1 rest })
    (ap (header_at depth) front ∙ faultless depth 1 rest format.List (λ e. absurd cc) long refl (λ lists. deep) (λ lists. absurd cc)) refl

-- The format with this code has this mask.
values_with : (o : Option Format) (mask : ℕ) → mask ≡ mask_for o → mask < 8 → (f : Format) × (o ≡ Some f) × (is_list f ≡ false) × (mask ≡ value_size f - 1)
values_with None mask is low = absurd (omega arith)
values_with (Some f) mask is low = by_kind (is_list f) refl
  where
    by_kind : (b : Bool) → is_list f ≡ b → (g : Format) × (Some f ≡ Some g) × (is_list g ≡ false) × (mask ≡ value_size g - 1)
    by_kind true lists = let m : mask ≡ 8 = is ∙ rw lists refl in absurd (omega arith)
    by_kind false lists = (f, refl, lists, is ∙ rw lists refl)

-- A header of values.
values_of_field : (depth place first number field : ℕ) (octets rest : List ℕ) (mask : ℕ) → drop place octets ≡ first ∷ rest → field ≡ first % 4 → (field ≡ 0 → ⊥) → field ≤ length rest → mask ≡ mask_for (format_with_code (first / 4)) → mask < 8
    → number ≡ big_number field rest → bit_and number mask ≡ 0 → number ≤ length rest - field
    → ◌≡◌ {A = Result Part ItemFault} (Ok (record { end = place + 1 + field + number; elements = 0 })) (part_from place (header_at depth (drop place octets)))
values_of_field depth place first number field octets rest mask front field_is some long is low number_is whole there =
    let p = values_with (format_with_code (first / 4)) mask is low in
    let sized : big_number field rest % value_size p.0 ≡ 0 = sym (mask_is_size p.0 (big_number field rest)) ∙ rw (← number_is, ← p.3) whole in
    let read = faultless depth first rest p.0 (rw field_is at some) (rw field_is at long) p.1 (λ lists. absurd cc) (λ lists. (rw field_is at sized, rw field_is at (rw number_is at there))) in
    let same : number ≡ big_number (first % 4) rest = rw field_is at number_is in
    same_part (place + 1 + field + number) (place + (1 + first % 4) + big_number (first % 4) rest) 0 0 (omega (arith, field_is, same)) refl
    ∙ from_values place (header_at depth (drop place octets)) (record { format = p.0; size = 1 + first % 4; length = big_number (first % 4) rest }) (ap (header_at depth) front ∙ read) p.2

-- A header of values with one length byte.
pub values_read : (depth place number mask : ℕ) (octets : List ℕ) → place + 2 ≤ length octets → mask ≡ mask_for (short_format (get_or octets place 0)) → mask < 8
    → number ≡ get_or octets (place + 1) 0 → bit_and number mask ≡ 0 → place + 2 + number ≤ length octets
    → ◌≡◌ {A = Result Part ItemFault} (Ok (record { end = place + 2 + number; elements = 0 })) (part_from place (header_at depth (drop place octets)))
values_read depth place number mask octets room mask_is low is whole there =
    let first = get_or octets place 0 in
    let rest = drop (place + 1) octets in
    let front : drop place octets ≡ first ∷ rest = drop_more octets place 0 (omega arith) in
    let long : length rest ≡ length octets - (place + 1) = length-drop (place + 1) octets in
    let one = short_mask first mask mask_is low in
    same_part (place + 2 + number) (place + 1 + 1 + number) 0 0 (omega arith) refl
    ∙ values_of_field depth place first number 1 octets rest mask front (sym one.0) (λ e. absurd cc) (omega (arith, long)) one.1 low (one_octet place number octets room is) whole (omega (arith, long))
