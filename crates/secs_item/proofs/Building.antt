-- Building of the elements of a list, one by one.
use Rattle.std.proofs.Common.{◌≡◌, ℕ, suc, ◌+◌, ◌-◌, ◌<◌, ◌≤◌, List, [], ◌∷◌, ◌++◌, length, drop, Result, Ok, Err, refl, sym, ap, ◌∙◌, arith, zero-add}
use Rattle.std.specs.Prelude.{IsOk}
use Rattle.std.proofs.lemmas.List.{length-append, length-drop, drop-drop}
use Rattle.secs_item.specs.Item.{Value, Elements, no_elements, element, elements_of}
use Rattle.secs_item.specs.Encoding.{IsOctets}
use Rattle.secs_item.specs.InnerDecoding.{Fault, ◌>>=◌, subsequent, elements_by, item_at}
use Rattle.secs_item.specs.InnerMeasure.{EndsAt}
use Rattle.secs_item.proofs.Octets.{IsOctets-drop}
use Rattle.secs_item.proofs.Items.{item_found, bind_ok, subsequent_ok}

-- The values, and then more elements.
abbrev pub joined : List Value → Elements → Elements
joined [] es = es
joined (v ∷ vs) es = element v (joined vs es)

joined_all : (vs : List Value) → joined vs no_elements ≡ elements_of vs
joined_all [] = refl
joined_all (v ∷ vs) = ap (element v) (joined_all vs)

joined_push : (vs : List Value) (v : Value) (es : Elements) → joined (vs ++ v ∷ []) es ≡ joined vs (element v es)
joined_push [] v es = refl
joined_push (w ∷ vs) v es = ap (element w) (joined_push vs v es)

-- Loop invariant: `i` of the elements are built.
pub record IsBuilding (one : List ℕ → Result (Value × ℕ) Fault) (octets : List ℕ) (place number i end : ℕ) (built : List Value) : Type 0 where
  pub left : Elements
  pub size : ℕ
  pub within : end ≤ length octets
  pub from_place : place ≤ end
  pub left_is : elements_by one (number - i) (drop end octets) ≡ Ok (left, size)
  pub whole : elements_by one number (drop place octets) ≡ Ok (joined built left, (end - place) + size)

is_ok : {A : Type 0} (r : Result A Fault) → IsOk r → (x : A) × (r ≡ Ok x)
is_ok (Ok x) h = (x, refl)
is_ok (Err f) h = absurd cc

pub starts_building : (one : List ℕ → Result (Value × ℕ) Fault) (octets : List ℕ) (place number : ℕ) → place ≤ length octets → IsOk (elements_by one number (drop place octets)) → IsBuilding one octets place number 0 place []
starts_building one octets place number within h =
    let p = is_ok (elements_by one number (drop place octets)) h in
    let none : place - place ≡ 0 = omega arith in
    let all : number - 0 ≡ number = omega arith in
    record {
      left = p.0.0;
      size = p.0.1;
      within = within;
      from_place = omega arith;
      left_is = rw all p.1;
      whole = rw none (p.1 ∙ ap (λ (n : ℕ). Ok (p.0.0, n)) (sym (zero-add p.0.1)));
    }

-- The next element, and the elements after it.
record IsNext (one : List ℕ → Result (Value × ℕ) Fault) (octets : List ℕ) (n : ℕ) (es : Elements) (size : ℕ) : Type 0 where
  pub first : Value × ℕ
  pub others : Elements × ℕ
  pub first_is : one octets ≡ Ok first
  pub others_are : elements_by one n (drop first.1 octets) ≡ Ok others
  pub all_are : es ≡ element first.0 others.0
  pub size_is : size ≡ first.1 + others.1

next_is : (one : List ℕ → Result (Value × ℕ) Fault) (octets : List ℕ) (n : ℕ) (es : Elements) (size : ℕ) → elements_by one (suc n) octets ≡ Ok (es, size) → IsNext one octets n es size
unfolding elements_by
next_is one octets n es size e =
    let a = bind_ok (one octets) (λ first. subsequent first.1 (elements_by one n (drop first.1 octets)) >>= λ others. Ok (element first.0 others.0, first.1 + others.1)) (es, size) e in
    let b = bind_ok (subsequent a.0.1 (elements_by one n (drop a.0.1 octets))) (λ others. Ok (element a.0.0 others.0, a.0.1 + others.1)) (es, size) a.2 in
    let made : ◌≡◌ {A = Elements × ℕ} (element a.0.0 b.0.0, a.0.1 + b.0.1) (es, size) = cc in
    record {
      first = a.0;
      others = b.0;
      first_is = a.1;
      others_are = subsequent_ok a.0.1 _ b.0 b.1;
      all_are = sym (ap (λ (y : Elements × ℕ). y.0) made);
      size_is = sym (ap (λ (y : Elements × ℕ). y.1) made);
    }

next_of : (one : List ℕ → Result (Value × ℕ) Fault) (octets : List ℕ) (place number i end : ℕ) (built : List Value) → i < number → (b : IsBuilding one octets place number i end built) → IsNext one (drop end octets) (number - (i + 1)) b.left b.size
next_of one octets place number i end built lt b =
    let k : number - i ≡ suc (number - (i + 1)) = omega arith in
    next_is one (drop end octets) (number - (i + 1)) b.left b.size (ap (λ (n : ℕ). elements_by one n (drop end octets)) (sym k) ∙ b.left_is)

-- The next element exists.
pub next_measured : (one : List ℕ → Result (Value × ℕ) Fault) (octets : List ℕ) (place number i end : ℕ) (built : List Value) → i < number → IsBuilding one octets place number i end built → IsOk (one (drop end octets))
next_measured one octets place number i end built lt b = rw (next_of one octets place number i end built lt b).first_is refl

-- One more element is built.
pub continues_building : (depth : ℕ) (octets : List ℕ) (place number i end after : ℕ) (built : List Value) (v : Value) → IsOctets octets → i < number → IsBuilding (item_at depth) octets place number i end built
    → EndsAt end (item_at depth (drop end octets)) v after → IsBuilding (item_at depth) octets place number (i + 1) after (built ++ v ∷ [])
continues_building depth octets place number i end after built v h lt b ends =
    let next = next_of (item_at depth) octets place number i end built lt b in
    let same : ◌≡◌ {A = Result (Value × ℕ) Fault} (Ok next.first) (Ok (v, ends.0)) = sym next.first_is ∙ ends.1 in
    let first : next.first ≡ (v, ends.0) = cc in
    let v_is : next.first.0 ≡ v = ap (λ (x : Value × ℕ). x.0) first in
    let n_is : next.first.1 ≡ ends.0 = ap (λ (x : Value × ℕ). x.1) first in
    let item = item_found depth (drop end octets) (v, ends.0) (IsOctets-drop end octets h) ends.1 in
    let left : elements_by (item_at depth) (number - (i + 1)) (drop after octets) ≡ Ok next.others =
    ap (elements_by (item_at depth) (number - (i + 1))) (ap (λ (n : ℕ). drop n octets) (ends.2 ∙ ap (λ (n : ℕ). end + n) (sym n_is)) ∙ sym (drop-drop next.first.1 end octets)) ∙ next.others_are in
    record {
      left = next.others.0;
      size = next.others.1;
      within = omega (arith, ends.2, b.within, ap length item.parts, length-append item.encoded_bytes item.rest, item.length_is, length-drop end octets);
      from_place = omega (arith, b.from_place, ends.2);
      left_is = left;
      whole = b.whole ∙ ap (λ (es : Elements). Ok (joined built es, (end - place) + b.size)) (next.all_are ∙ ap (λ (x : Value). element x next.others.0) v_is)
          ∙ ap (λ (es : Elements). Ok (es, (end - place) + b.size)) (sym (joined_push built v next.others.0))
          ∙ ap (λ (n : ℕ). Ok (joined (built ++ v ∷ []) next.others.0, n)) (omega (arith, next.size_is, n_is, ends.2, b.from_place));
    }

-- All elements are built.
pub ends_building : (one : List ℕ → Result (Value × ℕ) Fault) (octets : List ℕ) (place number i end : ℕ) (built : List Value) → number ≤ i → IsBuilding one octets place number i end built → EndsAt place (elements_by one number (drop place octets)) (elements_of built) end
unfolding elements_by
ends_building one octets place number i end built le b =
    let k : number - i ≡ 0 = omega arith in
    let none : ◌≡◌ {A = Result (Elements × ℕ) Fault} (Ok (no_elements, 0)) (Ok (b.left, b.size)) = ap (λ (n : ℕ). elements_by one n (drop end octets)) (sym k) ∙ b.left_is in
    let made : ◌≡◌ {A = Elements × ℕ} (no_elements, 0) (b.left, b.size) = cc in
    let left_is : b.left ≡ no_elements = sym (ap (λ (y : Elements × ℕ). y.0) made) in
    let size_is : b.size ≡ 0 = sym (ap (λ (y : Elements × ℕ). y.1) made) in (
      end - place,
      b.whole ∙ ap (λ (es : Elements). Ok (joined built es, (end - place) + b.size)) left_is ∙ ap (λ (es : Elements). Ok (es, (end - place) + b.size)) (joined_all built) ∙ ap (λ (n : ℕ). Ok (elements_of built, n)) (omega (arith, size_is)),
      omega (arith, b.from_place),
    )
