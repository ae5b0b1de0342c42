-- Results of reading from the start, in the terms of the definitions.
use Rattle.std.proofs.Common.{◌≡◌, ℕ, ◌<◌, ◌≤◌, List, length, take, drop, Result, Ok, Err, refl, sym, ap, ◌∙◌, arith, zero-add, inl, inr}
use Rattle.std.specs.Prelude.{IfOk, IfErr, IsOk, Option, Some, None}
use Rattle.std.proofs.lemmas.List.{length-append, length-take, length-drop, take_at, take_all, take-append-drop}
use Rattle.secs_item.specs.declared.fault.ItemFault.{ItemFault}
use Rattle.secs_item.specs.declared.format.Format.{Format}
use Rattle.secs_item.specs.declared.format.Format.TheVariants as format
use Rattle.secs_item.specs.Item.{Value, list, values, count, format_of_values}
use Rattle.secs_item.specs.Header.{Reason, trailing}
use Rattle.secs_item.specs.Encoding.{IsOctets, Framed, EncodesTo, IsAtFront, IsWhole, IsTextOf, IsText}
use Rattle.secs_item.specs.Fault.{Faults, HasTrailing, TextFaults, IsReported, fault_at}
use Rattle.secs_item.specs.InnerDecoding.{Fault, item_at}
use Rattle.secs_item.specs.InnerMeasure.{end_from, EndsAt}
use Rattle.secs_item.proofs.Items.{IsItem, item_found, framed_length}
use Rattle.secs_item.proofs.Determinism.{item_reads}
use Rattle.secs_item.proofs.Faults.{fault_found, fault_read}

at_front : (depth : ℕ) (octets : List ℕ) (v : Value) (n : ℕ) → IsItem depth octets v n → IsAtFront depth octets v n
at_front depth octets v n is =
    let front : take n octets ≡ is.encoded_bytes = ap (take n) is.parts ∙ take_at is.encoded_bytes is.rest n is.length_is in
    record {
      within = omega (arith, ap length is.parts, length-append is.encoded_bytes is.rest, is.length_is);
      encodes_to = rw front is.encodes_to;
      nesting = is.nesting;
    }

pub front_found : (depth : ℕ) (octets : List ℕ) (v : Value) (n : ℕ) → IsOctets octets → item_at depth octets ≡ Ok (v, n) → IsAtFront depth octets v n
front_found depth octets v n h e = at_front depth octets v n (item_found depth octets (v, n) h e)

pub front_read : (depth : ℕ) (octets : List ℕ) (v : Value) (n : ℕ) → IsAtFront depth octets v n → item_at depth octets ≡ Ok (v, n)
front_read depth octets v n is =
    let len : length (take n octets) ≡ n = omega (arith, length-take n octets, is.within) in
    ap (item_at depth) (sym (take-append-drop n octets)) ∙ item_reads v depth (take n octets) (drop n octets) is.encodes_to is.nesting ∙ ap (λ (k : ℕ). Ok (v, k)) len

-- ---- measuring

measured_ok : (depth : ℕ) (octets : List ℕ) (r : Result (Value × ℕ) Fault) → IsOctets octets → item_at depth octets ≡ r → IfOk (end_from 0 r) (λ n. (v : Value) × IsAtFront depth octets v n)
measured_ok depth octets (Ok x) h e = (x.0, rw (zero-add x.1) (front_found depth octets x.0 x.1 h e))
measured_ok depth octets (Err f) h e = tt

measured_err : (depth : ℕ) (octets : List ℕ) (r : Result (Value × ℕ) Fault) → IsOctets octets → item_at depth octets ≡ r → IfErr (end_from 0 r) (IsReported (Faults depth octets))
measured_err depth octets (Ok x) h e = tt
measured_err depth octets (Err f) h e = (f.at, f.reason, fault_found depth octets f h e, ap (λ (n : ℕ). fault_at n f.reason) (zero-add f.at))

pub measure_ok : (depth : ℕ) (octets : List ℕ) → IsOctets octets → IfOk (end_from 0 (item_at depth octets)) (λ n. (v : Value) × IsAtFront depth octets v n)
measure_ok depth octets h = measured_ok depth octets (item_at depth octets) h refl

pub measure_err : (depth : ℕ) (octets : List ℕ) → IsOctets octets → IfErr (end_from 0 (item_at depth octets)) (IsReported (Faults depth octets))
measure_err depth octets h = measured_err depth octets (item_at depth octets) h refl

pub measure_ok_where : (depth : ℕ) (octets : List ℕ) (v : Value) (n : ℕ) → IsAtFront depth octets v n → end_from 0 (item_at depth octets) ≡ Ok n
measure_ok_where depth octets v n is = ap (end_from 0) (front_read depth octets v n is) ∙ ap (λ (k : ℕ). Ok k) (zero-add n)

pub measure_err_where : (depth : ℕ) (octets : List ℕ) (at : ℕ) (reason : Reason) → Faults depth octets at reason → end_from 0 (item_at depth octets) ≡ Err (fault_at at reason)
measure_err_where depth octets at reason h = ap (end_from 0) (fault_read depth octets at reason h) ∙ ap (λ (k : ℕ). Err (fault_at k reason)) (zero-add at)

-- ---- bytes after the item

pub has_trailing : (depth : ℕ) (octets : List ℕ) (v : Value) (n : ℕ) → IsAtFront depth octets v n → n < length octets → HasTrailing depth octets n
has_trailing depth octets v n is lt = record {
  value = v;
  encoded_bytes = take n octets;
  encodes_to = is.encodes_to;
  nesting = is.nesting;
  rest = drop n octets;
  follows = omega (arith, length-drop n octets);
  parts = sym (take-append-drop n octets);
  place = omega (arith, length-take n octets);
}

pub trailing_front : (depth : ℕ) (octets : List ℕ) (at : ℕ) (has : HasTrailing depth octets at) → IsAtFront depth octets has.value at
trailing_front depth octets at has =
    let front : take at octets ≡ has.encoded_bytes = ap (take at) has.parts ∙ take_at has.encoded_bytes has.rest at (sym has.place) in
    record {
      within = omega (arith, ap length has.parts, length-append has.encoded_bytes has.rest, has.place);
      encodes_to = rw front has.encodes_to;
      nesting = has.nesting;
    }

pub trailing_within : (depth : ℕ) (octets : List ℕ) (at : ℕ) → HasTrailing depth octets at → at < length octets
trailing_within depth octets at has = omega (arith, ap length has.parts, length-append has.encoded_bytes has.rest, has.place, has.follows)

-- ---- the error of a text, given the result of measuring its start

-- An error at the start is also the text's error.
pub text_fails : (depth : ℕ) (octets : List ℕ) (f : ItemFault) → ((at : ℕ) (reason : Reason) → Faults depth octets at reason → ◌≡◌ {A = Result ℕ ItemFault} (Err f) (Err (fault_at at reason)))
    → ((v : Value) (n : ℕ) → IsAtFront depth octets v n → ◌≡◌ {A = Result ℕ ItemFault} (Err f) (Ok n)) → (at : ℕ) (reason : Reason) → TextFaults depth octets at reason → f ≡ fault_at at reason
text_fails depth octets f faults fronts at reason (some, inl h) = let e = faults at reason h in cc
text_fails depth octets f faults fronts at reason (some, inr h) = let e = fronts h.1.value at (trailing_front depth octets at h.1) in absurd cc

-- The text starts with an item.
pub text_trails : (depth : ℕ) (octets : List ℕ) (end : ℕ) → ((at : ℕ) (reason : Reason) → Faults depth octets at reason → ◌≡◌ {A = Result ℕ ItemFault} (Ok end) (Err (fault_at at reason)))
    → ((v : Value) (n : ℕ) → IsAtFront depth octets v n → ◌≡◌ {A = Result ℕ ItemFault} (Ok end) (Ok n)) → (at : ℕ) (reason : Reason) → TextFaults depth octets at reason → (end ≡ at) × (reason ≡ trailing) × (at < length octets)
text_trails depth octets end faults fronts at reason (some, inl h) = let e = faults at reason h in absurd cc
text_trails depth octets end faults fronts at reason (some, inr h) =
    let e = fronts h.1.value at (trailing_front depth octets at h.1) in
    (cc, h.0, trailing_within depth octets at h.1)

-- An item at the start is read.
pub front_measured : (depth : ℕ) (octets : List ℕ) (v : Value) (n : ℕ) → IsAtFront depth octets v n → IsOk (item_at depth octets)
front_measured depth octets v n is = rw (front_read depth octets v n is) refl

-- The item that is built from the start.
pub front_built : (depth : ℕ) (octets : List ℕ) (v : Value) (end : ℕ) → IsOctets octets → EndsAt 0 (item_at depth octets) v end → IsAtFront depth octets v end
front_built depth octets v end h ends = rw (ends.2, zero-add ends.0) (front_found depth octets v ends.0 h ends.1)

-- There is only one item at the start.
pub front_one : (depth : ℕ) (octets : List ℕ) (v w : Value) (n m : ℕ) → IsAtFront depth octets v n → IsAtFront depth octets w m → (v ≡ w) × (n ≡ m)
front_one depth octets v w n m a b =
    let same : ◌≡◌ {A = Result (Value × ℕ) Fault} (Ok (v, n)) (Ok (w, m)) = sym (front_read depth octets v n a) ∙ front_read depth octets w m b in
    let pair : ◌≡◌ {A = Value × ℕ} (v, n) (w, m) = cc in
    (ap (λ (x : Value × ℕ). x.0) pair, ap (λ (x : Value × ℕ). x.1) pair)

-- ---- complete texts

framed_some : (f : Format) (number : ℕ) (body octets : List ℕ) → Framed f number body octets → 0 < length octets
framed_some f number body octets framed = omega (arith, ap length framed.parts, framed_length f framed.field number body)

encoded_some : (v : Value) (octets : List ℕ) → EncodesTo v octets → 0 < length octets
encoded_some (list es) octets h = framed_some format.List (count es) h.0 octets h.2
encoded_some (values v) octets h = framed_some (format_of_values v) (length h.0) h.0 octets h.2

pub whole_front : (depth : ℕ) (octets : List ℕ) (v : Value) → IsWhole depth octets v → IsAtFront depth octets v (length octets)
whole_front depth octets v h = record { within = omega arith; encodes_to = rw (take_all (length octets) octets (omega arith)) h.0; nesting = h.1 }

pub front_whole : (depth : ℕ) (octets : List ℕ) (v : Value) (n : ℕ) → IsAtFront depth octets v n → length octets ≤ n → IsWhole depth octets v
front_whole depth octets v n is le = (rw (take_all n octets le) at is.encodes_to, is.nesting)

-- A text that is not empty is an item.
pub text_item : (depth : ℕ) (octets : List ℕ) (text : Option Value) → 0 < length octets → IsTextOf depth octets text → (v : Value) × (text ≡ Some v) × IsWhole depth octets v
text_item depth octets None some h = absurd (omega (arith, ap length h))
text_item depth octets (Some v) some h = (v, refl, h)

-- An empty text has no item.
pub text_none : (depth : ℕ) (octets : List ℕ) (text : Option Value) → length octets ≡ 0 → IsTextOf depth octets text → None ≡ text
text_none depth octets None none h = refl
text_none depth octets (Some v) none h = let some = encoded_some v octets h.0 in absurd (omega arith)

pub text_measured : (depth : ℕ) (octets : List ℕ) → 0 < length octets → IsText depth octets → IsOk (item_at depth octets)
text_measured depth octets some h =
    let p = text_item depth octets h.0 some h.1 in
    front_measured depth octets p.0 (length octets) (whole_front depth octets p.0 p.2)

-- The value built from a text is its item.
pub text_built : (depth : ℕ) (octets : List ℕ) (w : Value) (end : ℕ) (text : Option Value) → IsOctets octets → 0 < length octets → EndsAt 0 (item_at depth octets) w end → IsTextOf depth octets text → (Some w ≡ text) × IsWhole depth octets w
text_built depth octets w end text h some ends t =
    let p = text_item depth octets text some t in
    let one = front_one depth octets w p.0 end (length octets) (front_built depth octets w end h ends) (whole_front depth octets p.0 p.2) in
    (ap (λ (x : Value). Some x) one.0 ∙ sym p.1, rw one.0 p.2)
