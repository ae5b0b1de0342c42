-- Errors: reading returns exactly the error that the bytes have.
use Rattle.std.proofs.Common.{◌≡◌, ℕ, zero, suc, ◌+◌, ◌<◌, ◌≤◌, Bool, true, false, List, [], ◌++◌, length, drop, Result, Ok, Err, refl, sym, ap, ◌∙◌, subst, arith, append_assoc, inl, inr}
use Rattle.std.specs.Prelude.{◌⊎◌}
use Rattle.std.proofs.lemmas.List.{length-append, drop_at}
use Rattle.secs_item.specs.Format.{is_list}
use Rattle.secs_item.specs.Item.{Value, list, Elements, no_elements, element, count, nest_of_elements}
use Rattle.secs_item.specs.Header.{Reason, Head, header_at}
use Rattle.secs_item.specs.Encoding.{IsOctets, AllEncoded}
use Rattle.secs_item.specs.Fault.{FaultsInElement, FaultsInHeader, Faults}
use Rattle.secs_item.specs.InnerDecoding.{Fault, ◌>>=◌, subsequent, elements_by, item_by, item_at}
use Rattle.secs_item.proofs.Octets.{IsOctets-drop, IsOctets-rest}
use Rattle.secs_item.proofs.Headers.{header_is}
use Rattle.secs_item.proofs.Items.{IsItem, item_found}
use Rattle.secs_item.proofs.Determinism.{item_reads}

abbrev pub fault : ℕ → Reason → Fault
fault at reason = record { at = at; reason = reason }

-- ---- the error that reading returns

-- Valid elements, and then one with an error.
record IsElementFault (depth number : ℕ) (octets : List ℕ) (f : Fault) : Type 0 where
  pub before : Elements
  pub fewer : count before < number
  pub nesting : nest_of_elements before ≤ depth
  pub encoded_bytes : List ℕ
  pub encodes_to : AllEncoded before encoded_bytes
  pub rest : List ℕ
  pub parts : octets ≡ encoded_bytes ++ rest
  pub at_in_element : ℕ
  pub place : f.at ≡ length encoded_bytes + at_in_element
  pub read : item_at depth rest ≡ Err (record { at = at_in_element; reason = f.reason })

subsequent_err : {A : Type 0} (size : ℕ) (r : Result A Fault) (f : Fault) → subsequent size r ≡ Err f → (g : Fault) × (r ≡ Err g) × (f ≡ record { at = size + g.at; reason = g.reason })
subsequent_err size (Ok x) f e = absurd cc
subsequent_err size (Err g) f e = (g, refl, cc)

bind_err : {A B : Type 0} (r : Result A Fault) (next : A → Result B Fault) (f : Fault) → (r >>= next) ≡ Err f → (r ≡ Err f) ⊎ ((x : A) × (r ≡ Ok x) × (next x ≡ Err f))
bind_err (Ok x) next f e = inr (x, refl, e)
bind_err (Err g) next f e = inl cc

-- The result of reading an element and then the elements after it.
abbrev and_others : Value × ℕ → Result (Elements × ℕ) Fault → Result (Elements × ℕ) Fault
and_others x read = subsequent x.1 read >>= λ others. Ok (element x.0 others.0, x.1 + others.1)

element_fault : (depth number : ℕ) (octets : List ℕ) (f : Fault) → IsOctets octets → elements_by (item_at depth) number octets ≡ Err f → IsElementFault depth number octets f
unfolding elements_by
element_fault depth zero octets f h e = absurd cc
element_fault depth (suc number) octets f h e =
    elim (bind_err (item_at depth octets) (λ first. and_others first (elements_by (item_at depth) number (drop first.1 octets))) f e) [
      | inl first ↦ record { before = no_elements; fewer = omega arith; nesting = omega arith; encoded_bytes = []; encodes_to = refl; rest = octets; parts = refl; at_in_element = f.at; place = omega arith; read = first }
      | inr a ↦ later (λ o g k r. element_fault depth number o g k r) a.0 (item_found depth octets a.0 h a.1) a.2
    ]
  where
    later : ((o : List ℕ) (g : Fault) → IsOctets o → elements_by (item_at depth) number o ≡ Err g → IsElementFault depth number o g) → (x : Value × ℕ) → IsItem depth octets x.0 x.1 → and_others x (elements_by (item_at depth) number (drop x.1 octets)) ≡ Err f → IsElementFault depth (suc number) octets f
    later again x first e' =
        elim (bind_err (subsequent x.1 (elements_by (item_at depth) number (drop x.1 octets))) (λ others. Ok (element x.0 others.0, x.1 + others.1)) f e') [
          | inr b ↦ absurd (fine b.2)
          | inl g ↦ further (subsequent_err x.1 (elements_by (item_at depth) number (drop x.1 octets)) f g)
        ]
      where
        fine : {y : Elements × ℕ} → ◌≡◌ {A = Result (Elements × ℕ) Fault} (Ok y) (Err f) → ⊥
        fine k = cc

        further : (g : Fault) × (elements_by (item_at depth) number (drop x.1 octets) ≡ Err g) × (f ≡ record { at = x.1 + g.at; reason = g.reason }) → IsElementFault depth (suc number) octets f
        further g =
            let past : drop x.1 octets ≡ first.rest = ap (λ (o : List ℕ). drop x.1 o) first.parts ∙ drop_at first.encoded_bytes first.rest x.1 first.length_is in
            let inner = again first.rest g.0 (IsOctets-rest octets first.encoded_bytes first.rest first.parts h) (ap (elements_by (item_at depth) number) (sym past) ∙ g.1) in
            rw g.2 (record {
              before = element x.0 inner.before;
              fewer = omega (arith, inner.fewer);
              nesting = omega (arith, first.nesting, inner.nesting);
              encoded_bytes = first.encoded_bytes ++ inner.encoded_bytes;
              encodes_to = (first.encoded_bytes, inner.encoded_bytes, first.encodes_to, inner.encodes_to, refl);
              rest = inner.rest;
              parts = first.parts ∙ ap (λ (o : List ℕ). first.encoded_bytes ++ o) inner.parts ∙ sym (append_assoc first.encoded_bytes inner.encoded_bytes inner.rest);
              at_in_element = inner.at_in_element;
              place = omega (arith, inner.place, first.length_is, length-append first.encoded_bytes inner.encoded_bytes);
              read = inner.read;
            })

header_fault : (depth : ℕ) (octets : List ℕ) (reason : Reason) (f : Fault) → header_at depth octets ≡ Err reason → ◌≡◌ {A = Result (Value × ℕ) Fault} (Err (fault 0 reason)) (Err f) → FaultsInHeader depth octets f.at f.reason
header_fault depth octets reason f is e =
    let made : fault 0 reason ≡ f = cc in
    subst (λ (g : Fault). FaultsInHeader depth octets g.at g.reason) made (refl, is)

-- The error of an item is its header's, or comes from its elements.
item_fault : (inner : ℕ → List ℕ → Result (Elements × ℕ) Fault) (depth : ℕ) (octets : List ℕ) (r : Result Head Reason) (f : Fault) → header_at depth octets ≡ r → item_by inner octets r ≡ Err f
    → FaultsInHeader depth octets f.at f.reason ⊎ ((head : Head) × (r ≡ Ok head) × (is_list head.format ≡ true) × (subsequent head.size (inner head.length (drop head.size octets)) ≡ Err f))
unfolding item_by
item_fault inner depth octets (Err reason) f is e = inl (header_fault depth octets reason f is e)
item_fault inner depth octets (Ok head) f is e = by_kind (is_list head.format) refl
  where
    by_kind : (b : Bool) → is_list head.format ≡ b → FaultsInHeader depth octets f.at f.reason ⊎ ((h : Head) × (◌≡◌ {A = Result Head Reason} (Ok head) (Ok h)) × (is_list h.format ≡ true) × (subsequent h.size (inner h.length (drop h.size octets)) ≡ Err f))
    by_kind true lists =
        elim (bind_err (subsequent head.size (inner head.length (drop head.size octets))) (λ y. Ok (list y.0, head.size + y.1)) f (rw lists at e)) [
          | inl g ↦ inr (head, refl, lists, g)
          | inr b ↦ absurd (fine b.2)
        ]
      where
        fine : {y : Value × ℕ} → ◌≡◌ {A = Result (Value × ℕ) Fault} (Ok y) (Err f) → ⊥
        fine k = cc
    by_kind false lists = let e' = rw lists at e in absurd cc

pub fault_found : (depth : ℕ) (octets : List ℕ) (f : Fault) → IsOctets octets → item_at depth octets ≡ Err f → Faults depth octets f.at f.reason
unfolding item_at Faults
fault_found zero octets f h e =
    elim (item_fault (λ n rest. Ok (no_elements, 0)) 0 octets (header_at 0 octets) f refl e) [
      | inl g ↦ g
      | inr a ↦ absurd (omega (arith, (header_is 0 octets a.0 h a.1).deep_enough a.2))
    ]
fault_found (suc depth) octets f h e =
    elim (item_fault (elements_by (item_at depth)) (suc depth) octets (header_at (suc depth) octets) f refl e) [
      | inl g ↦ inl g
      | inr a ↦ inr (within (λ o g k r. fault_found depth o g k r) a.0 a.1 a.2 (subsequent_err a.0.size (elements_by (item_at depth) a.0.length (drop a.0.size octets)) f a.3))
    ]
  where
    within : ((o : List ℕ) (g : Fault) → IsOctets o → item_at depth o ≡ Err g → Faults depth o g.at g.reason) → (head : Head) → header_at (suc depth) octets ≡ Ok head → is_list head.format ≡ true → (g : Fault) × (elements_by (item_at depth) head.length (drop head.size octets) ≡ Err g) × (f ≡ record { at = head.size + g.at; reason = g.reason })
        → FaultsInElement (Faults depth) depth octets f.at f.reason
    within again head is lists g =
        let left = drop head.size octets in
        let inner = element_fault depth head.length left g.0 (IsOctets-drop head.size octets h) g.1 in
        let rest_h = IsOctets-rest left inner.encoded_bytes inner.rest inner.parts (IsOctets-drop head.size octets h) in
        rw g.2 (record {
          head = head;
          head_is = is;
          of_list = lists;
          before = inner.before;
          fewer = inner.fewer;
          nesting = inner.nesting;
          encoded_bytes = inner.encoded_bytes;
          encodes_to = inner.encodes_to;
          rest = inner.rest;
          parts = inner.parts;
          at_in_element = inner.at_in_element;
          place = omega (arith, inner.place);
          fault = again inner.rest (record { at = inner.at_in_element; reason = g.0.reason }) rest_h inner.read;
        })

-- ---- reading returns the error that the bytes have

fault_after : (depth : ℕ) (before : Elements) (number : ℕ) (encoded_bytes rest : List ℕ) (at : ℕ) (reason : Reason) → count before < number → AllEncoded before encoded_bytes → nest_of_elements before ≤ depth
    → item_at depth rest ≡ Err (fault at reason) → elements_by (item_at depth) number (encoded_bytes ++ rest) ≡ Err (fault (length encoded_bytes + at) reason)
unfolding elements_by
fault_after depth before zero encoded_bytes rest at reason fewer encodes_to nesting read = absurd (omega arith)
fault_after depth no_elements (suc number) encoded_bytes rest at reason fewer encodes_to nesting read =
    let zero_at : 0 + at ≡ at = omega arith in
    rw (encodes_to, read, zero_at) refl
fault_after depth (element v es) (suc number) encoded_bytes rest at reason fewer encodes_to nesting read =
    let first = encodes_to.0 in
    let others = encodes_to.1 in
    let regrouped : encoded_bytes ++ rest ≡ first ++ (others ++ rest) = ap (λ (o : List ℕ). o ++ rest) encodes_to.4 ∙ append_assoc first others rest in
    let is : item_at depth (first ++ (others ++ rest)) ≡ Ok (v, length first) = item_reads v depth first (others ++ rest) encodes_to.2 (omega arith) in
    let left : drop (length first) (first ++ (others ++ rest)) ≡ others ++ rest = drop_at first (others ++ rest) (length first) refl in
    let later = fault_after depth es number others rest at reason (omega arith) encodes_to.3 (omega arith) read in
    let place : length first + (length others + at) ≡ length encoded_bytes + at = omega (arith, ap length encodes_to.4, length-append first others) in
    rw (regrouped, is, left, later, place) refl

pub fault_read : (depth : ℕ) (octets : List ℕ) (at : ℕ) (reason : Reason) → Faults depth octets at reason → item_at depth octets ≡ Err (fault at reason)
unfolding item_at Faults item_by
fault_read zero octets at reason h = rw (h.1, h.0) refl
fault_read (suc depth) octets at reason (inl h) = rw (h.1, h.0) refl
fault_read (suc depth) octets at reason (inr h) =
    let inner = fault_read depth h.rest h.at_in_element reason h.fault in
    let after : elements_by (item_at depth) h.head.length (drop h.head.size octets) ≡ Err (fault (length h.encoded_bytes + h.at_in_element) reason) =
    ap (elements_by (item_at depth) h.head.length) h.parts ∙ fault_after depth h.before h.head.length h.encoded_bytes h.rest h.at_in_element reason h.fewer h.encodes_to h.nesting inner in
    let place : h.head.size + (length h.encoded_bytes + h.at_in_element) ≡ at = omega (arith, h.place) in
    rw (h.head_is, h.of_list, after, place) refl
