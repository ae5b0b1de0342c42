-- Measuring of unfinished lists, element by element.
use Rattle.std.proofs.Common.{◌≡◌, ℕ, zero, suc, ◌+◌, ◌-◌, ◌<◌, Bool, true, false, List, length, drop, get_or, Result, Ok, Err, refl, sym, ap, ◌∙◌, arith, inl, inr, add-zero, ◌≢◌}
use Rattle.std.specs.Prelude.{◌⊎◌}
use Rattle.std.proofs.Math.ListN.{set}
use Rattle.std.proofs.lemmas.List.{get_or-set_other, get_or-set_same}
use Rattle.secs_item.specs.declared.fault.ItemFault.{ItemFault}
use Rattle.secs_item.specs.declared.header.Header.{Header}
use Rattle.secs_item.specs.declared.measure_step.Part.{Part}
use Rattle.secs_item.specs.Fault.{fault_at}
use Rattle.secs_item.specs.Format.{is_list}
use Rattle.secs_item.specs.Header.{Reason, Head, header_at}
use Rattle.secs_item.specs.Item.{Value}
use Rattle.secs_item.specs.InnerDecoding.{Fault, elements_by, item_at}
use Rattle.secs_item.specs.Measure.{header_from}
use Rattle.secs_item.specs.InnerMeasure.{part_from, end_from, and_from_there, end_of_lists, end_of_open}
use Rattle.secs_item.proofs.Lengths.{first_is, first_fails, item_fails, item_of_values, item_of_elements, empty_list}

-- ---- parts as headers

-- The header that a part is read from.
abbrev pub IsPartOf : Header → Part → Type 0
IsPartOf h p = ((is_list h.format ≡ true) × (p.end ≡ h.body) × (p.elements ≡ h.length)) ⊎ ((is_list h.format ≡ false) × (p.end ≡ h.body + h.length) × (p.elements ≡ 0))

header_of : (place : ℕ) (r : Result Head Reason) (p : Part) → Ok p ≡ part_from place r → (h : Header) × (Ok h ≡ header_from place r) × IsPartOf h p
header_of place (Ok head) p is = (record { format = head.format; body = place + head.size; length = head.length }, refl, by_kind (is_list head.format) refl)
  where
    by_kind : (b : Bool) → is_list head.format ≡ b → IsPartOf (record { format = head.format; body = place + head.size; length = head.length }) p
    by_kind true lists =
        let is' : ◌≡◌ {A = Result Part ItemFault} (Ok p) (Ok (record { end = place + head.size; elements = head.length })) = rw lists at is in
        let same : p ≡ record { end = place + head.size; elements = head.length } = cc in
        inl (lists, ap (λ (q : Part). q.end) same, ap (λ (q : Part). q.elements) same)
    by_kind false lists =
        let is' : ◌≡◌ {A = Result Part ItemFault} (Ok p) (Ok (record { end = place + head.size + head.length; elements = 0 })) = rw lists at is in
        let same : p ≡ record { end = place + head.size + head.length; elements = 0 } = cc in
        inr (lists, ap (λ (q : Part). q.end) same, ap (λ (q : Part). q.elements) same)
header_of place (Err reason) p is = absurd cc

same_fault : (place : ℕ) (r : Result Head Reason) (e : ItemFault) → Err e ≡ part_from place r → Err e ≡ header_from place r
same_fault place (Ok head) e is = absurd cc
same_fault place (Err reason) e is = let same : e ≡ fault_at place reason = cc in ap (λ (f : ItemFault). Err f) same

-- An item whose header has an error.
pub part_fails : (place depth : ℕ) (octets : List ℕ) (e : ItemFault) → Err e ≡ part_from place (header_at depth (drop place octets)) → Err e ≡ end_from place (item_at depth (drop place octets))
part_fails place depth octets e is = item_fails place depth octets e (same_fault place (header_at depth (drop place octets)) e is)

-- An item of values, or an empty list, is one part.
pub part_is_whole : (place depth : ℕ) (octets : List ℕ) (p : Part) → Ok p ≡ part_from place (header_at depth (drop place octets)) → p.elements ≡ 0 → Ok p.end ≡ end_from place (item_at depth (drop place octets))
part_is_whole place depth octets p is none =
    let x = header_of place (header_at depth (drop place octets)) p is in
    elim x.2 [
      | inl k ↦ ap (λ (n : ℕ). Ok n) k.1 ∙ empty_list place depth octets x.0 x.1 k.0 (sym k.2 ∙ none)
      | inr k ↦ ap (λ (n : ℕ). Ok n) k.1 ∙ item_of_values place depth octets x.0 x.1 k.0
    ]

-- A list ends with its elements.
pub part_of_list : (place depth : ℕ) (octets : List ℕ) (p : Part) → Ok p ≡ part_from place (header_at depth (drop place octets)) → 0 < p.elements → 0 < depth
    → end_from p.end (elements_by (item_at (depth - 1)) p.elements (drop p.end octets)) ≡ end_from place (item_at depth (drop place octets))
part_of_list place depth octets p is some deep =
    let x = header_of place (header_at depth (drop place octets)) p is in
    elim x.2 [
      | inl k ↦ ap (λ (n : ℕ). end_from n (elements_by (item_at (depth - 1)) p.elements (drop n octets))) k.1
          ∙ ap (λ (n : ℕ). end_from x.0.body (elements_by (item_at (depth - 1)) n (drop x.0.body octets))) k.2
          ∙ item_of_elements place depth octets x.0 x.1 k.0 deep
      | inr k ↦ absurd (omega (arith, k.2, some))
    ]

-- ---- unfinished lists

nothing_more : (r : Result ℕ ItemFault) → and_from_there r (λ end. Ok end) ≡ r
nothing_more (Ok end) = refl
nothing_more (Err e) = refl

one_after_another : (r : Result ℕ ItemFault) (f g : ℕ → Result ℕ ItemFault) → and_from_there (and_from_there r f) g ≡ and_from_there r (λ end. and_from_there (f end) g)
one_after_another (Ok end) f g = refl
one_after_another (Err e) f g = refl

-- An element, and the others from its end on.
elements_then : (one : List ℕ → Result (Value × ℕ) Fault) (octets : List ℕ) (place n : ℕ)
    → end_from place (elements_by one (suc n) (drop place octets)) ≡ and_from_there (end_from place (one (drop place octets))) (λ end. end_from end (elements_by one n (drop end octets)))
elements_then one octets place n = by_end (end_from place (one (drop place octets))) refl
  where
    by_end : (r : Result ℕ ItemFault) → end_from place (one (drop place octets)) ≡ r → end_from place (elements_by one (suc n) (drop place octets)) ≡ and_from_there r (λ end. end_from end (elements_by one n (drop end octets)))
    by_end (Ok end) is = first_is one place n octets (one (drop place octets)) end (sym is) refl
    by_end (Err e) is = first_fails one place n octets (one (drop place octets)) e (sym is) refl

same_after : (r : Result ℕ ItemFault) (f g : ℕ → Result ℕ ItemFault) → ((end : ℕ) → f end ≡ g end) → and_from_there r f ≡ and_from_there r g
same_after (Ok end) f g same = same end
same_after (Err e) f g same = refl

-- Setting the count of an inner list does not change the result for the outer lists.
further_in : (counts : List ℕ) (depth : ℕ) (octets : List ℕ) (lists i count place : ℕ) → i + lists < depth → end_of_lists (set counts i count) depth octets lists place ≡ end_of_lists counts depth octets lists place
unfolding end_of_lists
further_in counts depth octets zero i count place less = refl
further_in counts depth octets (suc lists) i count place less =
    let at = depth - suc lists in
    let other : at ≢ i = omega arith in
    let same : get_or (set counts i count) at 0 ≡ get_or counts at 0 = get_or-set_other counts i at count 0 other in
    ap (λ (n : ℕ). and_from_there (end_from place (elements_by (item_at at) n (drop place octets))) (end_of_lists (set counts i count) depth octets lists)) same
    ∙ same_after (end_from place (elements_by (item_at at) (get_or counts at 0) (drop place octets))) (end_of_lists (set counts i count) depth octets lists) (end_of_lists counts depth octets lists)
    (λ end. further_in counts depth octets lists i count end (omega arith))

-- ---- the steps of the loop; `total` is the final result

-- At the start there is one unfinished list.
pub list_opened : (counts : List ℕ) (depth : ℕ) (octets : List ℕ) (count place : ℕ) → end_of_open counts depth octets (depth - 1) count place ≡ end_from place (elements_by (item_at (depth - 1)) count (drop place octets))
unfolding end_of_lists
list_opened counts depth octets count place =
    let none : depth - 1 - (depth - 1) ≡ 0 = omega arith in
    ap (λ (n : ℕ). and_from_there (end_from place (elements_by (item_at (depth - 1)) count (drop place octets))) (end_of_lists counts depth octets n)) none
    ∙ nothing_more (end_from place (elements_by (item_at (depth - 1)) count (drop place octets)))

-- The innermost list has no elements left.
module _ (counts : List ℕ) (depth : ℕ) (octets : List ℕ) (inside left place : ℕ) (total : Result ℕ ItemFault) (none : left ≡ 0) (so_far : end_of_open counts depth octets inside left place ≡ total) where
  ended : end_of_lists counts depth octets (depth - 1 - inside) place ≡ total
  unfolding elements_by
  ended = sym (ap (end_of_lists counts depth octets (depth - 1 - inside)) (add-zero place)) ∙ rw none at so_far

  -- There is no other unfinished list.
  pub all_closed : inside ≡ depth - 1 → Ok place ≡ total
  unfolding end_of_lists
  all_closed last =
      let no_list : depth - 1 - inside ≡ 0 = omega arith in rw no_list at ended

  -- There is an enclosing list.
  pub list_closes : (j : ℕ) → j ≡ inside + 1 → j < depth → end_of_open counts depth octets j (get_or counts j 0) place ≡ total
  unfolding end_of_lists
  list_closes j j_is less =
      let lists : depth - 1 - inside ≡ suc (depth - 1 - j) = omega arith in
      let at : depth - suc (depth - 1 - j) ≡ j = omega arith in
      ap (λ (n : ℕ). and_from_there (end_from place (elements_by (item_at n) (get_or counts n 0) (drop place octets))) (end_of_lists counts depth octets (depth - 1 - j))) (sym at)
      ∙ rw lists at ended

-- The next element is read.
module _ (counts : List ℕ) (depth : ℕ) (octets : List ℕ) (inside left place : ℕ) (total : Result ℕ ItemFault) (some : left ≡ 0 → ⊥) (so_far : end_of_open counts depth octets inside left place ≡ total) where
  element_next : and_from_there (end_from place (item_at inside (drop place octets))) (λ end. end_of_open counts depth octets inside (left - 1) end) ≡ total
  element_next =
      let one = item_at inside in
      let outer = end_of_lists counts depth octets (depth - 1 - inside) in
      let left_is : left ≡ suc (left - 1) = omega arith in
      sym (one_after_another (end_from place (one (drop place octets))) (λ end. end_from end (elements_by one (left - 1) (drop end octets))) outer)
      ∙ sym (ap (λ (r : Result ℕ ItemFault). and_from_there r outer) (elements_then one octets place (left - 1)))
      ∙ ap (λ (n : ℕ). and_from_there (end_from place (elements_by one n (drop place octets))) outer) (sym left_is)
      ∙ so_far

  pub element_fails : (e : ItemFault) → Err e ≡ part_from place (header_at inside (drop place octets)) → Err e ≡ total
  element_fails e is =
      ap (λ (r : Result ℕ ItemFault). and_from_there r (λ end. end_of_open counts depth octets inside (left - 1) end)) (part_fails place inside octets e is) ∙ element_next

  pub element_whole : (p : Part) → Ok p ≡ part_from place (header_at inside (drop place octets)) → p.elements ≡ 0
      → end_of_open counts depth octets inside (left - 1) p.end ≡ total
  element_whole p is none =
      ap (λ (r : Result ℕ ItemFault). and_from_there r (λ end. end_of_open counts depth octets inside (left - 1) end)) (part_is_whole place inside octets p is none) ∙ element_next

  pub element_opens : (p : Part) → Ok p ≡ part_from place (header_at inside (drop place octets)) → 0 < p.elements → 0 < inside → inside < depth → inside < length counts
      → end_of_open (set counts inside (left - 1)) depth octets (inside - 1) p.elements p.end ≡ total
  unfolding end_of_lists
  element_opens p is some_elements deep less room =
      let counts' = set counts inside (left - 1) in
      let lists = depth - 1 - inside in
      let more : depth - 1 - (inside - 1) ≡ suc lists = omega arith in
      let at : depth - suc lists ≡ inside = omega arith in
      let got : get_or counts' inside 0 ≡ left - 1 = get_or-set_same counts inside (left - 1) 0 room in
      let around : (end : ℕ) → end_of_lists counts' depth octets (suc lists) end ≡ end_of_open counts depth octets inside (left - 1) end = λ end.
      ap (λ (n : ℕ). and_from_there (end_from end (elements_by (item_at n) (get_or counts' n 0) (drop end octets))) (end_of_lists counts' depth octets lists)) at
      ∙ ap (λ (n : ℕ). and_from_there (end_from end (elements_by (item_at inside) n (drop end octets))) (end_of_lists counts' depth octets lists)) got
      ∙ same_after (end_from end (elements_by (item_at inside) (left - 1) (drop end octets))) (end_of_lists counts' depth octets lists) (end_of_lists counts depth octets lists)
      (λ e. further_in counts depth octets lists inside (left - 1) e (omega arith)) in
      ap (λ (n : ℕ). and_from_there (end_from p.end (elements_by (item_at (inside - 1)) p.elements (drop p.end octets))) (end_of_lists counts' depth octets n)) more
      ∙ same_after (end_from p.end (elements_by (item_at (inside - 1)) p.elements (drop p.end octets))) (end_of_lists counts' depth octets (suc lists)) (λ end. end_of_open counts depth octets inside (left - 1) end) around
      ∙ ap (λ (r : Result ℕ ItemFault). and_from_there r (λ end. end_of_open counts depth octets inside (left - 1) end)) (part_of_list place inside octets p is some_elements deep)
      ∙ element_next
