-- Reading from an offset: the lengths and errors of consecutive items.
use Rattle.std.proofs.Common.{◌≡◌, ℕ, zero, suc, ◌+◌, ◌-◌, ◌≤◌, ◌<◌, true, false, List, take, drop, Result, Ok, Err, refl, sym, ap, ◌∙◌, arith, add_assoc, add-zero}
use Rattle.std.specs.Prelude.{IsOk}
use Rattle.std.proofs.lemmas.List.{drop-drop}
use Rattle.secs_item.specs.declared.fault.ItemFault.{ItemFault}
use Rattle.secs_item.specs.declared.header.Header.{Header}
use Rattle.secs_item.specs.Format.{is_list}
use Rattle.secs_item.specs.Header.{Reason, Head, header_at}
use Rattle.secs_item.specs.Item.{Value, Elements, no_elements, list, values, element}
use Rattle.secs_item.specs.Decoding.{values_of}
use Rattle.secs_item.specs.InnerDecoding.{Fault, ◌>>=◌, subsequent, elements_by, item_by, item_at}
use Rattle.secs_item.specs.Measure.{header_from}
use Rattle.secs_item.specs.InnerMeasure.{end_from, EndsAt}
use Rattle.secs_item.specs.Fault.{fault_at}

-- ---- elements

-- An element, and the result of reading after it.
subsequent_element : (place size : ℕ) (v : Value) (others : Result (Elements × ℕ) Fault)
    → end_from place (subsequent size others >>= λ o. Ok (element v o.0, size + o.1)) ≡ end_from (place + size) others
subsequent_element place size v (Ok o) = ap (λ (n : ℕ). Ok n) (sym (add_assoc place size o.1))
subsequent_element place size v (Err f) = ap (λ (n : ℕ). Err (fault_at n f.reason)) (sym (add_assoc place size f.at))

pub first_is : (one : List ℕ → Result (Value × ℕ) Fault) (place n : ℕ) (octets : List ℕ) (r : Result (Value × ℕ) Fault) (end : ℕ) → Ok end ≡ end_from place r → one (drop place octets) ≡ r
    → end_from place (elements_by one (suc n) (drop place octets)) ≡ end_from end (elements_by one n (drop end octets))
unfolding elements_by
first_is one place n octets (Ok x) end ended is =
    let end_is : end ≡ place + x.1 = cc in
    rw (is, end_is) (subsequent_element place x.1 x.0 (elements_by one n (drop x.1 (drop place octets)))
    ∙ ap (λ (o : List ℕ). end_from (place + x.1) (elements_by one n o)) (drop-drop x.1 place octets))
first_is one place n octets (Err f) end ended is = absurd cc

pub first_fails : (one : List ℕ → Result (Value × ℕ) Fault) (place n : ℕ) (octets : List ℕ) (r : Result (Value × ℕ) Fault) (e : ItemFault) → Err e ≡ end_from place r → one (drop place octets) ≡ r
    → end_from place (elements_by one (suc n) (drop place octets)) ≡ Err e
unfolding elements_by
first_fails one place n octets (Ok x) e ended is = absurd cc
first_fails one place n octets (Err f) e ended is = rw is (sym ended)

-- One more of the remaining elements is read.
pub elements_go_on : (one : List ℕ → Result (Value × ℕ) Fault) (octets : List ℕ) (count i place end : ℕ) (total : Result ℕ ItemFault) → i < count → Ok end ≡ end_from place (one (drop place octets))
    → end_from place (elements_by one (count - i) (drop place octets)) ≡ total → end_from end (elements_by one (count - (i + 1)) (drop end octets)) ≡ total
elements_go_on one octets count i place end total left ended so_far =
    let k : count - i ≡ suc (count - (i + 1)) = omega arith in
    sym (ap (λ (n : ℕ). end_from place (elements_by one n (drop place octets))) k ∙ first_is one place (count - (i + 1)) octets (one (drop place octets)) end ended refl) ∙ so_far

-- The next of the remaining elements has an error.
pub elements_fail : (one : List ℕ → Result (Value × ℕ) Fault) (octets : List ℕ) (count i place : ℕ) (e : ItemFault) (total : Result ℕ ItemFault) → i < count → Err e ≡ end_from place (one (drop place octets))
    → end_from place (elements_by one (count - i) (drop place octets)) ≡ total → Err e ≡ total
elements_fail one octets count i place e total left ended so_far =
    let k : count - i ≡ suc (count - (i + 1)) = omega arith in
    sym (ap (λ (n : ℕ). end_from place (elements_by one n (drop place octets))) k ∙ first_fails one place (count - (i + 1)) octets (one (drop place octets)) e ended refl) ∙ so_far

-- No elements remain.
pub elements_done : (one : List ℕ → Result (Value × ℕ) Fault) (octets : List ℕ) (count i place : ℕ) (total : Result ℕ ItemFault) → count ≤ i
    → end_from place (elements_by one (count - i) (drop place octets)) ≡ total → Ok place ≡ total
unfolding elements_by
elements_done one octets count i place total none so_far =
    let k : count - i ≡ 0 = omega arith in
    let ended : end_from place (elements_by one (count - i) (drop place octets)) ≡ Ok place = rw k (ap (λ (n : ℕ). Ok n) (add-zero place)) in
    sym ended ∙ so_far

-- ---- items

-- The header at an offset, and the result of reading after it.
list_by : (inner : ℕ → List ℕ → Result (Elements × ℕ) Fault) (place : ℕ) (octets : List ℕ) (head : Head) → is_list head.format ≡ true
    → end_from place (item_by inner (drop place octets) (Ok head)) ≡ end_from (place + head.size) (inner head.length (drop (place + head.size) octets))
unfolding item_by
list_by inner place octets head lists =
    let moved : drop head.size (drop place octets) ≡ drop (place + head.size) octets = drop-drop head.size place octets in
    rw (lists, moved) (list_from place head.size (inner head.length (drop (place + head.size) octets)))
  where
    list_from : (place size : ℕ) (r : Result (Elements × ℕ) Fault) → end_from place (subsequent size r >>= λ x. Ok (list x.0, size + x.1)) ≡ end_from (place + size) r
    list_from place size (Ok x) = ap (λ (n : ℕ). Ok n) (sym (add_assoc place size x.1))
    list_from place size (Err f) = ap (λ (n : ℕ). Err (fault_at n f.reason)) (sym (add_assoc place size f.at))

values_by : (inner : ℕ → List ℕ → Result (Elements × ℕ) Fault) (place : ℕ) (octets : List ℕ) (head : Head) → is_list head.format ≡ false
    → end_from place (item_by inner (drop place octets) (Ok head)) ≡ Ok (place + head.size + head.length)
unfolding item_by
values_by inner place octets head lists = rw lists (ap (λ (n : ℕ). Ok n) (sym (add_assoc place head.size head.length)))

fails_by : (inner : ℕ → List ℕ → Result (Elements × ℕ) Fault) (place : ℕ) (octets : List ℕ) (r : Result Head Reason) (e : ItemFault) → Err e ≡ header_from place r
    → Err e ≡ end_from place (item_by inner (drop place octets) r)
unfolding item_by
fails_by inner place octets (Ok head) e is = absurd cc
fails_by inner place octets (Err reason) e is =
    let same : e ≡ fault_at place reason = cc in
    ap (λ (x : ItemFault). Err x) same ∙ ap (λ (n : ℕ). Err (fault_at n reason)) (sym (add-zero place))

-- A property that holds for every way to read elements holds of an item.
pub at_any_depth : (P : Result (Value × ℕ) Fault → Type 0) (depth : ℕ) (octets : List ℕ) → ((inner : ℕ → List ℕ → Result (Elements × ℕ) Fault) → P (item_by inner octets (header_at depth octets))) → P (item_at depth octets)
unfolding item_at
at_any_depth P zero octets all = all (λ n rest. Ok (no_elements, 0))
at_any_depth P (suc depth) octets all = all (elements_by (item_at depth))

-- An item whose header has an error.
pub item_fails : (place depth : ℕ) (octets : List ℕ) (e : ItemFault) → Err e ≡ header_from place (header_at depth (drop place octets)) → Err e ≡ end_from place (item_at depth (drop place octets))
item_fails place depth octets e is =
    at_any_depth (λ (r : Result (Value × ℕ) Fault). Err e ≡ end_from place r) depth (drop place octets) (λ inner. fails_by inner place octets (header_at depth (drop place octets)) e is)

-- The header that was read, with offsets.
same_header : (place : ℕ) (head : Head) (h : Header) → Ok h ≡ header_from place (Ok head) → h ≡ record { format = head.format; body = place + head.size; length = head.length }
same_header place head h is = cc

values_end : (inner : ℕ → List ℕ → Result (Elements × ℕ) Fault) (place : ℕ) (octets : List ℕ) (r : Result Head Reason) (h : Header) → Ok h ≡ header_from place r → is_list h.format ≡ false
    → Ok (h.body + h.length) ≡ end_from place (item_by inner (drop place octets) r)
values_end inner place octets (Ok head) h is lists =
    let same = same_header place head h is in
    ap (λ (x : Header). Ok (x.body + x.length)) same ∙ sym (values_by inner place octets head (sym (ap (λ (x : Header). is_list x.format) same) ∙ lists))
values_end inner place octets (Err reason) h is lists = absurd cc

elements_end : (inner : ℕ → List ℕ → Result (Elements × ℕ) Fault) (place : ℕ) (octets : List ℕ) (r : Result Head Reason) (h : Header) → Ok h ≡ header_from place r → is_list h.format ≡ true
    → end_from h.body (inner h.length (drop h.body octets)) ≡ end_from place (item_by inner (drop place octets) r)
elements_end inner place octets (Ok head) h is lists =
    let same = same_header place head h is in
    ap (λ (x : Header). end_from x.body (inner x.length (drop x.body octets))) same ∙ sym (list_by inner place octets head (sym (ap (λ (x : Header). is_list x.format) same) ∙ lists))
elements_end inner place octets (Err reason) h is lists = absurd cc

-- An item of values ends with its body.
pub item_of_values : (place depth : ℕ) (octets : List ℕ) (h : Header) → Ok h ≡ header_from place (header_at depth (drop place octets)) → is_list h.format ≡ false
    → Ok (h.body + h.length) ≡ end_from place (item_at depth (drop place octets))
item_of_values place depth octets h is lists =
    at_any_depth (λ (r : Result (Value × ℕ) Fault). Ok (h.body + h.length) ≡ end_from place r) depth (drop place octets)
    (λ inner. values_end inner place octets (header_at depth (drop place octets)) h is lists)

-- A list ends with its elements.
pub item_of_elements : (place depth : ℕ) (octets : List ℕ) (h : Header) → Ok h ≡ header_from place (header_at depth (drop place octets)) → is_list h.format ≡ true → 0 < depth
    → end_from h.body (elements_by (item_at (depth - 1)) h.length (drop h.body octets)) ≡ end_from place (item_at depth (drop place octets))
unfolding item_at
item_of_elements place zero octets h is lists deep = absurd (omega arith)
item_of_elements place (suc d) octets h is lists deep =
    let less : suc d - 1 ≡ d = omega arith in
    rw less (elements_end (elements_by (item_at d)) place octets (header_at (suc d) (drop place octets)) h is lists)

-- An empty list ends after its header.
pub empty_list : (place depth : ℕ) (octets : List ℕ) (h : Header) → Ok h ≡ header_from place (header_at depth (drop place octets)) → is_list h.format ≡ true → h.length ≡ 0
    → Ok h.body ≡ end_from place (item_at depth (drop place octets))
unfolding item_at elements_by
empty_list place zero octets h is lists none =
    ap (λ (n : ℕ). Ok n) (sym (add-zero h.body)) ∙ elements_end (λ n rest. Ok (no_elements, 0)) place octets (header_at 0 (drop place octets)) h is lists
empty_list place (suc d) octets h is lists none =
    let ended : end_from h.body (elements_by (item_at d) h.length (drop h.body octets)) ≡ Ok h.body = rw none (ap (λ (n : ℕ). Ok n) (add-zero h.body)) in
    sym ended ∙ elements_end (elements_by (item_at d)) place octets (header_at (suc d) (drop place octets)) h is lists

-- ---- measured items exist

measured_not : {A : Type 0} (r : Result (A × ℕ) Fault) (place : ℕ) (e : ItemFault) → Err e ≡ end_from place r → IsOk r → ⊥
measured_not (Ok x) place e is h = cc
measured_not (Err f) place e is h = cc

-- An item that was measured has a header.
pub header_measured : (place depth : ℕ) (octets : List ℕ) (e : ItemFault) → Err e ≡ header_from place (header_at depth (drop place octets)) → IsOk (item_at depth (drop place octets)) → ⊥
header_measured place depth octets e is h = measured_not (item_at depth (drop place octets)) place e (item_fails place depth octets e is) h

abbrev in_list : ℕ → Result (Elements × ℕ) Fault → Result (Value × ℕ) Fault
in_list size r = subsequent size r >>= λ x. Ok (list x.0, size + x.1)

elements_ok : (size : ℕ) (r : Result (Elements × ℕ) Fault) → IsOk (in_list size r) → IsOk r
elements_ok size (Ok x) h = refl
elements_ok size (Err f) h = cc

-- The source of `h`.
module _ (inner : ℕ → List ℕ → Result (Elements × ℕ) Fault) (place : ℕ) (octets : List ℕ) (h : Header) where
  list_measured : (r : Result Head Reason) → Ok h ≡ header_from place r → is_list h.format ≡ true → IsOk (item_by inner (drop place octets) r) → IsOk (inner h.length (drop h.body octets))
  unfolding item_by
  list_measured (Ok head) is lists ok =
      let same = same_header place head h is in
      let lists' : is_list head.format ≡ true = sym (ap (λ (x : Header). is_list x.format) same) ∙ lists in
      let moved : drop head.size (drop place octets) ≡ drop (place + head.size) octets = drop-drop head.size place octets in
      rw same (elements_ok head.size (inner head.length (drop (place + head.size) octets)) (rw (lists', moved) at ok))
  list_measured (Err reason) is lists ok = absurd cc

  list_ends : (r : Result Head Reason) (es : Elements) (end : ℕ) → Ok h ≡ header_from place r → is_list h.format ≡ true → EndsAt h.body (inner h.length (drop h.body octets)) es end → EndsAt place (item_by inner (drop place octets) r) (list es) end
  unfolding item_by
  list_ends (Ok head) es end is lists ends =
      let same = same_header place head h is in
      let lists' : is_list head.format ≡ true = sym (ap (λ (x : Header). is_list x.format) same) ∙ lists in
      let moved : drop head.size (drop place octets) ≡ drop (place + head.size) octets = drop-drop head.size place octets in
      let read : inner head.length (drop (place + head.size) octets) ≡ Ok (es, ends.0) = rw same at ends.1 in
      (head.size + ends.0, rw (lists', moved, read) refl, omega (arith, ends.2, ap (λ (x : Header). x.body) same))
  list_ends (Err reason) es end is lists ends = absurd cc

  values_ends : (r : Result Head Reason) → Ok h ≡ header_from place r → is_list h.format ≡ false → EndsAt place (item_by inner (drop place octets) r) (values (values_of h.format (take h.length (drop h.body octets)))) (h.body + h.length)
  unfolding item_by
  values_ends (Ok head) is lists =
      let same = same_header place head h is in
      let lists' : is_list head.format ≡ false = sym (ap (λ (x : Header). is_list x.format) same) ∙ lists in
      let moved : drop head.size (drop place octets) ≡ drop (place + head.size) octets = drop-drop head.size place octets in
      (head.size + head.length, rw (same, lists', moved) refl, omega (arith, ap (λ (x : Header). x.body) same, ap (λ (x : Header). x.length) same))
  values_ends (Err reason) is lists = absurd cc

-- The elements of a list that was measured.
pub elements_measured : (place depth : ℕ) (octets : List ℕ) (h : Header) → Ok h ≡ header_from place (header_at depth (drop place octets)) → is_list h.format ≡ true → 0 < depth
    → IsOk (item_at depth (drop place octets)) → IsOk (elements_by (item_at (depth - 1)) h.length (drop h.body octets))
unfolding item_at
elements_measured place zero octets h is lists deep ok = absurd (omega arith)
elements_measured place (suc d) octets h is lists deep ok =
    let less : suc d - 1 ≡ d = omega arith in
    rw less (list_measured (elements_by (item_at d)) place octets h (header_at (suc d) (drop place octets)) is lists ok)

-- A list, given its elements.
pub list_is : (place depth : ℕ) (octets : List ℕ) (h : Header) (es : Elements) (end : ℕ) → Ok h ≡ header_from place (header_at depth (drop place octets)) → is_list h.format ≡ true → 0 < depth
    → EndsAt h.body (elements_by (item_at (depth - 1)) h.length (drop h.body octets)) es end → EndsAt place (item_at depth (drop place octets)) (list es) end
unfolding item_at
list_is place zero octets h es end is lists deep ends = absurd (omega arith)
list_is place (suc d) octets h es end is lists deep ends =
    let less : suc d - 1 ≡ d = omega arith in
    list_ends (elements_by (item_at d)) place octets h (header_at (suc d) (drop place octets)) es end is lists (rw less at ends)

-- An item of values, given its body.
pub values_are : (place depth : ℕ) (octets : List ℕ) (h : Header) → Ok h ≡ header_from place (header_at depth (drop place octets)) → is_list h.format ≡ false
    → EndsAt place (item_at depth (drop place octets)) (values (values_of h.format (take h.length (drop h.body octets)))) (h.body + h.length)
values_are place depth octets h is lists =
    at_any_depth (λ (r : Result (Value × ℕ) Fault). EndsAt place r (values (values_of h.format (take h.length (drop h.body octets)))) (h.body + h.length)) depth (drop place octets)
    (λ inner. values_ends inner place octets h (header_at depth (drop place octets)) is lists)
