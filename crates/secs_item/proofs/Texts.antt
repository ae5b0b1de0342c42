-- Complete texts: exactly one result.
use Rattle.std.proofs.Common.{◌≡◌, ℕ, ◌<◌, List, length, Option, Some, None, refl, sym, ap, ◌∙◌, arith, inl, inr}
use Rattle.std.specs.Prelude.{◌⊎◌}
use Rattle.std.proofs.lemmas.Bool.{cases_lt}
use Rattle.std.proofs.lemmas.List.{nil_from_length}
use Rattle.secs_item.specs.Item.{Value}
use Rattle.secs_item.specs.Header.{Reason, trailing}
use Rattle.secs_item.specs.Encoding.{IsOctets, IsAtFront, IsTextOf}
use Rattle.secs_item.specs.Fault.{Faults, TextFaults}
use Rattle.secs_item.proofs.Prefixes.{front_one, whole_front, front_whole, text_item, text_none, has_trailing, trailing_front, trailing_within}
use Rattle.secs_item.proofs.Uniqueness.{some_answer, one_fault_of, not_both_of}

TextAnswer : ℕ → List ℕ → Type 0
TextAnswer depth octets = ((text : Option Value) × IsTextOf depth octets text) ⊎ ((at : ℕ) × (reason : Reason) × TextFaults depth octets at reason)

at_front : (depth : ℕ) (octets : List ℕ) (v : Value) (n : ℕ) → 0 < length octets → IsAtFront depth octets v n → TextAnswer depth octets
unfolding TextAnswer
at_front depth octets v n some is =
    elim (cases_lt n (length octets)) [
      | inl lt ↦ inr (n, trailing, (some, inr (refl, has_trailing depth octets v n is lt)))
      | inr le ↦ inl (Some v, front_whole depth octets v n is le)
    ]

answered : (depth : ℕ) (octets : List ℕ) → 0 < length octets → ((v : Value) × (n : ℕ) × IsAtFront depth octets v n) ⊎ ((at : ℕ) × (reason : Reason) × Faults depth octets at reason) → TextAnswer depth octets
unfolding TextAnswer
answered depth octets some (inl p) = at_front depth octets p.0 p.1 some p.2
answered depth octets some (inr p) = inr (p.0, p.1, (some, inl p.2))

pub some_text_answer : (depth : ℕ) (octets : List ℕ) → IsOctets octets → ((text : Option Value) × IsTextOf depth octets text) ⊎ ((at : ℕ) × (reason : Reason) × TextFaults depth octets at reason)
unfolding TextAnswer
some_text_answer depth octets h =
    elim (cases_lt 0 (length octets)) [
      | inl some ↦ answered depth octets some (some_answer depth octets h)
      | inr none ↦ inl (None, nil_from_length octets (omega arith))
    ]

pub one_text : (depth : ℕ) (octets : List ℕ) (text other : Option Value) → IsTextOf depth octets text → IsTextOf depth octets other → text ≡ other
one_text depth octets None other t o = text_none depth octets other (ap length t) o
one_text depth octets (Some v) None t o = sym (text_none depth octets (Some v) (ap length o) t)
one_text depth octets (Some v) (Some w) t o =
    ap (λ (x : Value). Some x) (front_one depth octets v w (length octets) (length octets) (whole_front depth octets v t) (whole_front depth octets w o)).0

pub one_text_fault : (depth : ℕ) (octets : List ℕ) (at place : ℕ) (reason cause : Reason) → TextFaults depth octets at reason → TextFaults depth octets place cause → (at ≡ place) × (reason ≡ cause)
one_text_fault depth octets at place reason cause (some, inl h) (more, inl k) = one_fault_of depth octets at place reason cause h k
one_text_fault depth octets at place reason cause (some, inl h) (more, inr k) = absurd (not_both_of depth octets k.1.value place at reason (trailing_front depth octets place k.1) h)
one_text_fault depth octets at place reason cause (some, inr h) (more, inl k) = absurd (not_both_of depth octets h.1.value at place cause (trailing_front depth octets at h.1) k)
one_text_fault depth octets at place reason cause (some, inr h) (more, inr k) =
    ((front_one depth octets h.1.value k.1.value at place (trailing_front depth octets at h.1) (trailing_front depth octets place k.1)).1, h.0 ∙ sym k.0)

item_only : (depth : ℕ) (octets : List ℕ) (v : Value) (at : ℕ) (reason : Reason) → IsAtFront depth octets v (length octets) → TextFaults depth octets at reason → ⊥
item_only depth octets v at reason is (some, inl h) = not_both_of depth octets v (length octets) at reason is h
item_only depth octets v at reason is (some, inr h) =
    let one = front_one depth octets v h.1.value (length octets) at is (trailing_front depth octets at h.1) in
    omega (arith, one.1, trailing_within depth octets at h.1)

pub not_both_of_text : (depth : ℕ) (octets : List ℕ) (text : Option Value) (at : ℕ) (reason : Reason) → IsTextOf depth octets text → TextFaults depth octets at reason → ⊥
not_both_of_text depth octets text at reason t h =
    let p = text_item depth octets text h.0 t in
    item_only depth octets p.0 at reason (whole_front depth octets p.0 p.2) h
