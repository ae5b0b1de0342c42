-- Hexadecimal digits, read sixteen at once.
use Rattle.std.proofs.Common.{◌≡◌, ◌<◌, ◌≤◌, ◌+◌, ◌-◌, ◌*◌, ◌%◌, ◌/◌, ◌^◌, ℕ, zero, suc, max, not, Bool, true, false, cond, leb, ltb, eqb, List, [], ◌∷◌, length, take, drop, get_or, map, replicate, Fits, w8, inl, inr, Some, None, Ok, refl, sym, ap, ap₂, ◌∙◌, subst, arith}
use Rattle.std.specs.Prelude.{◌⊎◌, Option, unwrap_or}
use Rattle.std.proofs.lemmas.Bool.{agree_below, agree_below_at, leb-true, leb-false, ltb-true, ltb-false, eqb-true, not-true, cases_lt, cases_Bool}
use Rattle.std.proofs.lemmas.List.{set-get_or, get_or-map, length-map}
use Rattle.std.proofs.lemmas.List.Elements.{All-get_or}
use Rattle.std.proofs.lemmas.Simd.{length-chunk, get_or-chunk, map-map, mask_l-mod, get_or_wider}
use lib.Lanes.{Each1, chunk, digits_l, mask_l, number_l, sel_l, top, zip2}
use Rattle.hex.specs.Hex.{decode_pairs, hex_digit_value, is_hex_digit, pair_value}
use Rattle.hex.proofs.Pairs.{prepend, decode_start, decode_step, decode_done}
use Rattle.hex.proofs.HexLemmas.{decode_of-ok, decode_of-even}
use Rattle.hsms_log.specs.LineFormat.{IsHexOf}
use Rattle.hsms_log.specs.InnerDigits.{value_or_none, IsPair, IsValueOf, AreSmall, AreRead}

-- ---- from bytes to the definition

value_some : (o : Option ℕ) → unwrap_or o 255 < 16 → o ≡ Some (unwrap_or o 255)
value_some (Some v) small = refl
value_some None small = absurd (omega arith)

-- Two digits are the byte of their values.
pair_is : (a b v i : ℕ) → IsPair a b v → pair_value a b i ≡ Ok v
pair_is a b v i h =
    rw (value_some (hex_digit_value a) h.0, value_some (hex_digit_value b) h.1) (ap (λ n. Ok n) (sym h.2))

-- The digits encode the first bytes, followed by what the rest of the digits encodes.
pairs_read : (digits octets : List ℕ) (i : ℕ) → length digits ≡ 2 * length octets → i ≤ length octets → AreRead digits octets i
    → decode_pairs 0 digits ≡ prepend (take i octets) (decode_pairs (2 * i) (drop (2 * i) digits))
pairs_read digits octets zero size room read = decode_start digits octets
pairs_read digits octets (suc i) size room read =
    let so_far = pairs_read digits octets i size (omega arith) (λ k less. read k (omega arith)) in
    let v = get_or octets i 0 in
    let next = decode_step digits octets i v (omega (arith, size)) (omega arith) (pair_is (get_or digits (2 * i) 0) (get_or digits (2 * i + 1) 0) v (2 * i) (read i (omega arith))) so_far in
    let more : i + 1 ≡ suc i = omega arith in
    subst (λ n. decode_pairs 0 digits ≡ prepend (take n octets) (decode_pairs (2 * n) (drop (2 * n) digits))) more
    (subst (λ xs. decode_pairs 0 digits ≡ prepend (take (i + 1) xs) (decode_pairs (2 * (i + 1)) (drop (2 * (i + 1)) digits))) (set-get_or octets i 0) next)

-- All are digits.
pub decoded : (digits octets : List ℕ) → length digits ≡ 2 * length octets → AreRead digits octets (length octets) → IsHexOf digits octets
decoded digits octets size read =
    decode_of-even digits (omega (arith, size))
    ∙ decode_done digits octets (length octets) (omega arith) (omega (arith, size)) (pairs_read digits octets (length octets) size (omega arith) read)

-- One is not a digit.
pub undecoded : (digits : List ℕ) (k : ℕ) → k < length digits → is_hex_digit (get_or digits k 0) ≡ false
    → (encoded_bytes : List ℕ) → IsHexOf digits encoded_bytes → ⊥
undecoded digits k fits other encoded_bytes hex =
    let parts = decode_of-ok digits encoded_bytes hex in
    let digit = All-get_or (λ c. is_hex_digit c ≡ true) digits k 0 fits parts.1 in
    let no = sym digit ∙ other in cc no

-- Eight more bytes are read.
pub read_on : (digits values old new : List ℕ) (place passed : ℕ) → place ≤ passed → AreRead digits old passed
    → ((k : ℕ) → k < 16 → IsValueOf (get_or digits (2 * place + k) 0) (get_or values k 0)) → AreSmall values
    → ((k : ℕ) → k < place → get_or new k 0 ≡ get_or old k 0)
    → ((k : ℕ) → k < 8 → get_or new (place + k) 0 ≡ get_or values (2 * k) 0 * 16 + get_or values (2 * k + 1) 0)
    → AreRead digits new (place + 8)
read_on digits values old new place passed within read found_fact small before joined k less =
    elim (cases_lt k place) [
      | inl early ↦
          subst (λ v. IsPair (get_or digits (2 * k) 0) (get_or digits (2 * k + 1) 0) v) (sym (before k early)) (read k (omega arith))
      | inr late ↦
          let j = k - place in
          let here : place + j ≡ k = omega arith in
          let first : 2 * place + 2 * j ≡ 2 * k = omega arith in
          let second : 2 * place + (2 * j + 1) ≡ 2 * k + 1 = omega arith in
          let high : get_or values (2 * j) 0 ≡ value_or_none (get_or digits (2 * k) 0) =
          (found_fact (2 * j) (omega arith)).0 (small (2 * j) (omega arith)) ∙ ap (λ n. value_or_none (get_or digits n 0)) first in
          let low : get_or values (2 * j + 1) 0 ≡ value_or_none (get_or digits (2 * k + 1) 0) =
          (found_fact (2 * j + 1) (omega arith)).0 (small (2 * j + 1) (omega arith)) ∙ ap (λ n. value_or_none (get_or digits n 0)) second in
          let octet : get_or new k 0 ≡ get_or values (2 * j) 0 * 16 + get_or values (2 * j + 1) 0 =
          ap (λ n. get_or new n 0) (sym here) ∙ joined j (omega arith) in (
            subst (λ n. n < 16) high (small (2 * j) (omega arith)),
            subst (λ n. n < 16) low (small (2 * j + 1) (omega arith)),
            octet ∙ ap (λ n. n * 16 + get_or values (2 * j + 1) 0) high ∙ ap (λ n. value_or_none (get_or digits (2 * k) 0) * 16 + n) low,
          )
    ]

-- ---- lanes, as a function of each byte

zip2-map : (h : ℕ → ℕ → ℕ) (f g : ℕ → ℕ) (xs : List ℕ) → zip2 h (map f xs) (map g xs) ≡ map (λ x. h (f x) (g x)) xs
zip2-map h f g [] = refl
zip2-map h f g (x ∷ xs) = ap (λ r. h (f x) (g x) ∷ r) (zip2-map h f g xs)

pub lanes_of_two : (h : ℕ → ℕ → ℕ) (f g : ℕ → ℕ) (v : List ℕ) {a b : List ℕ} → a ≡ map f v → b ≡ map g v → zip2 h a b ≡ map (λ x. h (f x) (g x)) v
lanes_of_two h f g v p q = ap₂ (zip2 h) p q ∙ zip2-map h f g v

pub lanes_of_one : (v : List ℕ) (n y : ℕ) → length v ≡ n → replicate n y ≡ map (λ _. y) v
lanes_of_one [] n y e = ap (λ k. replicate k y) (sym e)
lanes_of_one (x ∷ xs) n y e = ap (λ k. replicate k y) (sym e) ∙ ap (λ r. y ∷ r) (lanes_of_one xs (length xs) y refl)

pub lanes_loaded : (v : List ℕ) → v ≡ map (λ x. x) v
lanes_loaded [] = refl
lanes_loaded (x ∷ xs) = ap (λ r. x ∷ r) (lanes_loaded xs)

sel-map : (h f g : ℕ → ℕ) (xs : List ℕ) → sel_l (map (top 7) (map h xs)) (map f xs) (map g xs) ≡ map (λ x. cond (top 7 (h x)) (f x) (g x)) xs
sel-map h f g [] = refl
sel-map h f g (x ∷ xs) = ap (λ r. cond (top 7 (h x)) (f x) (g x) ∷ r) (sel-map h f g xs)

chosen : (h f g : ℕ → ℕ) (v m a b : List ℕ) → m ≡ map h v → a ≡ map f v → b ≡ map g v
    → sel_l (map (top 7) m) a b ≡ map (λ x. cond (top 7 (h x)) (f x) (g x)) v
chosen h f g v m a b m_is p q =
    ap (λ l. sel_l (map (top 7) l) a b) m_is ∙ ap (λ l. sel_l (map (top 7) (map h v)) l b) p
    ∙ ap (λ l. sel_l (map (top 7) (map h v)) (map f v) l) q ∙ sel-map h f g v

pub lanes_chosen : (h f g : ℕ → ℕ) (v : List ℕ) {m a b : List ℕ} → m ≡ map h v → a ≡ map f v → b ≡ map g v
    → sel_l (map (top 7) m) a b ≡ map (λ x. cond (top 7 (h x)) (f x) (g x)) v
lanes_chosen h f g v m_is p q = chosen h f g v _ _ _ m_is p q

pub lanes_as_many : (f : ℕ → ℕ) (v : List ℕ) {values : List ℕ} {n : ℕ} → values ≡ map f v → length v ≡ n → length values ≡ n
lanes_as_many f v is long = ap length is ∙ length-map v f ∙ long

-- True if a number represents a byte.
abbrev pub is_value_for : ℕ → ℕ → Bool
is_value_for c v = cond (leb 16 v) (not (is_hex_digit c)) (eqb v (value_or_none c))

consistent : (c v : ℕ) → is_value_for c v ≡ true → IsValueOf c v
consistent c v e = go (leb 16 v) refl e
  where
    go : (t : Bool) → leb 16 v ≡ t → cond t (not (is_hex_digit c)) (eqb v (value_or_none c)) ≡ true → IsValueOf c v
    go true p q = (let large = leb-true 16 v p in λ small. absurd (omega (arith, large, small)), λ _. not-true _ q)
    go false p q = (λ _. eqb-true v (value_or_none c) q, let small = leb-false 16 v p in λ large. absurd (omega (arith, large, small)))

-- The values of sixteen bytes represent them, if the value of each possible byte does.
pub values_decoded : (f : ℕ → ℕ) (digits values : List ℕ) (place : ℕ) → place + 16 ≤ length digits → ((k : ℕ) → Fits w8 (get_or digits k 0))
    → values ≡ map f (chunk place 16 digits) → agree_below (λ c. is_value_for c (f c)) (λ _. true) 256 ≡ true
    → (k : ℕ) → k < 16 → IsValueOf (get_or digits (place + k) 0) (get_or values k 0)
values_decoded f digits values place room fits is all k less =
    let v = chunk place 16 digits in
    let long = length-chunk place 16 digits room in
    let c = get_or digits (place + k) 0 in
    let same = ap (λ l. get_or l k 0) is ∙ get_or-map f v k 0 0 (omega (arith, long)) ∙ ap f (get_or-chunk place 16 digits k 0 less) in
    subst (λ n. IsValueOf c n) (sym same) (consistent c (f c) (agree_below_at (λ c. is_value_for c (f c)) (λ _. true) 256 c all (fits (place + k)).fits))

-- ---- the maximum of lanes

abbrev pub greater : List ℕ → List ℕ → List ℕ
greater a b = sel_l (map (top 7) (zip2 (λ x y. cond (ltb x y) 255 0) a b)) b a

greater_of : (x y : ℕ) → cond (top 7 (cond (ltb x y) 255 0)) y x ≡ max x y
greater_of x y = go (ltb x y) refl
  where
    go : (t : Bool) → ltb x y ≡ t → cond (top 7 (cond t 255 0)) y x ≡ max x y
    go true p = let less = ltb-true x y p in omega arith
    go false p = let more = ltb-false x y p in omega arith

greater_at : (a b : List ℕ) (k : ℕ) → length a ≡ length b → k < length a → get_or (greater a b) k 0 ≡ max (get_or a k 0) (get_or b k 0)
greater_at [] b k same less = absurd (omega arith)
greater_at (x ∷ xs) [] k same less = absurd (omega arith)
greater_at (x ∷ xs) (y ∷ ys) zero same less = greater_of x y
greater_at (x ∷ xs) (y ∷ ys) (suc k) same less = greater_at xs ys k (omega arith) (omega arith)

-- If the maximum is small, so are both.
pub greater_small : (a b : List ℕ) → length a ≡ 16 → length b ≡ 16 → AreSmall (greater a b) → AreSmall a × AreSmall b
greater_small a b left right small = (λ k less. omega (arith, both k less, small k less), λ k less. omega (arith, both k less, small k less))
  where
    both : (k : ℕ) → k < 16 → get_or (greater a b) k 0 ≡ max (get_or a k 0) (get_or b k 0)
    both k less = greater_at a b k (left ∙ sym right) (omega (arith, left))

-- If the maximum is not small, one of them is not.
pub greater_large : (a b : List ℕ) (k : ℕ) → length a ≡ 16 → length b ≡ 16 → k < 16 → 16 ≤ get_or (greater a b) k 0 → (16 ≤ get_or a k 0) ⊎ (16 ≤ get_or b k 0)
greater_large a b k left right less large =
    let both : get_or (greater a b) k 0 ≡ max (get_or a k 0) (get_or b k 0) = greater_at a b k (left ∙ sym right) (omega (arith, left)) in
    elim (cases_lt (get_or a k 0) 16) [
      | inl small ↦ inr (omega (arith, both, large, small))
      | inr here ↦ inl here
    ]

-- ---- the mask of a comparison

-- If no bit is set, no lane passes.
mask_none : (p : ℕ → Bool) (v : List ℕ) → mask_l (map p v) ≡ 0 → (k : ℕ) → k < length v → p (get_or v k 0) ≡ false
mask_none p [] empty k less = absurd (omega arith)
mask_none p (x ∷ xs) empty zero less = go (p x) refl empty
  where
    go : (t : Bool) → p x ≡ t → cond t 1 0 + 2 * mask_l (map p xs) ≡ 0 → p x ≡ false
    go true e sum = absurd (omega arith)
    go false e sum = e
mask_none p (x ∷ xs) empty (suc k) less = mask_none p xs (omega arith) k (omega arith)

-- Otherwise one does.
mask_some : (p : ℕ → Bool) (v : List ℕ) → 0 < mask_l (map p v) → (k : ℕ) × (k < length v) × (p (get_or v k 0) ≡ true)
mask_some p [] some = absurd (omega arith)
mask_some p (x ∷ xs) some =
    elim (cases_Bool (p x)) [
      | inl passes ↦ (0, omega arith, passes)
      | inr none ↦
          let rest : 0 < mask_l (map p xs) = omega (arith, subst (λ b. 0 < cond b 1 0 + 2 * mask_l (map p xs)) none some) in
          let found = mask_some p xs rest in (suc found.0, omega (arith, found.1), found.2)
    ]

abbrev is_large : ℕ → Bool
is_large x = top 7 (cond (leb 16 x) 255 0)

large_true : (x : ℕ) → is_large x ≡ true → 16 ≤ x
large_true x e = go (leb 16 x) refl e
  where
    go : (t : Bool) → leb 16 x ≡ t → top 7 (cond t 255 0) ≡ true → 16 ≤ x
    go true p q = leb-true 16 x p
    go false p q = cc q

large_false : (x : ℕ) → is_large x ≡ false → x < 16
large_false x e = go (leb 16 x) refl e
  where
    go : (t : Bool) → leb 16 x ≡ t → top 7 (cond t 255 0) ≡ false → x < 16
    go true p q = cc q
    go false p q = leb-false 16 x p

mask_is : (values : List ℕ) → length values ≡ 16
    → mask_l (map (top 7) (zip2 (λ a b. cond (leb a b) 255 0) (replicate 16 16) values)) % 2 ^ 64 ≡ mask_l (map is_large values)
mask_is values long =
    let lanes = lanes_of_two (λ a b. cond (leb a b) 255 0) (λ _. 16) (λ x. x) values (lanes_of_one values 16 16 long) (lanes_loaded values) in
    ap (λ l. mask_l l % 2 ^ 64) (ap (map (top 7)) lanes ∙ map-map (top 7) (λ x. cond (leb 16 x) 255 0) values)
    ∙ mask_l-mod (map is_large values) 64 (omega (arith, length-map values is_large, long))

pub all_small : (values : List ℕ) → length values ≡ 16
    → mask_l (map (top 7) (zip2 (λ a b. cond (leb a b) 255 0) (replicate 16 16) values)) % 2 ^ 64 ≡ 0 → (k : ℕ) → k < 16 → get_or values k 0 < 16
all_small values long empty k less =
    large_false (get_or values k 0) (mask_none is_large values (sym (mask_is values long) ∙ empty) k (omega (arith, long)))

pub mask_one : (n : ℕ) → eqb n 0 ≡ false → 0 < n
mask_one zero none = cc none
mask_one (suc n) none = omega arith

pub one_large : (values : List ℕ) → length values ≡ 16
    → 0 < mask_l (map (top 7) (zip2 (λ a b. cond (leb a b) 255 0) (replicate 16 16) values)) % 2 ^ 64 → (k : ℕ) × (k < 16) × (16 ≤ get_or values k 0)
one_large values long some =
    let found = mask_some is_large values (subst (λ n. 0 < n) (mask_is values long) some) in
    (found.0, omega (arith, found.1, long), large_true (get_or values found.0 0) found.2)

-- ---- two halves are joined

-- Two adjacent elements.
two_at : (n : ℕ) (xs : List ℕ) → suc n < length xs → chunk n 2 xs ≡ get_or xs n 0 ∷ get_or xs (suc n) 0 ∷ []
two_at n [] less = absurd (omega arith)
two_at zero (x ∷ []) less = absurd (omega arith)
two_at zero (x ∷ y ∷ xs) less = refl
two_at (suc n) (x ∷ xs) less = two_at n xs (omega arith)

octets_each : (xs : List ℕ) → ((k : ℕ) → k < length xs → get_or xs k 0 < 16) → Each1 (λ x. x < 256) xs
octets_each [] small = tt
octets_each (x ∷ xs) small = (omega (arith, small 0 (omega arith)), octets_each xs (λ k less. small (suc k) (omega arith)))

-- The byte of a number with the first half below and the second above.
abbrev pub join : ℕ → ℕ
join n = n * 4097 % 65536 / 256

join_is : (x y : ℕ) → x < 16 → y < 16 → join (x + 256 * (y + 256 * 0)) ≡ x * 16 + y
join_is x y first second = omega (arith, first, second)

-- The numbers of two bytes each, the first below.
abbrev pub numbers : List ℕ → List ℕ
numbers values = digits_l 65536 8 (number_l 256 values)

abbrev pub joined : List ℕ → List ℕ
joined values = map join (numbers values)

pub joined_at : (values : List ℕ) → length values ≡ 16 → AreSmall values → (k : ℕ) → k < 8
    → get_or (joined values) k 0 ≡ get_or values (2 * k) 0 * 16 + get_or values (2 * k + 1) 0
joined_at values long small k less =
    let x = get_or values (2 * k) 0 in
    let y = get_or values (suc (2 * k)) 0 in
    let after : suc (2 * k) ≡ 2 * k + 1 = omega arith in
    let each = octets_each values (λ j within. small j (omega (arith, long, within))) in
    let number : get_or (numbers values) k 0 ≡ number_l 256 (chunk (2 * k) 2 values) = get_or_wider 256 2 65536 8 values k refl each less in
    get_or-map join (numbers values) k 0 0 less ∙ ap join (number ∙ ap (number_l 256) (two_at (2 * k) values (omega (arith, long, less))))
    ∙ join_is x y (small (2 * k) (omega arith)) (small (suc (2 * k)) (omega arith)) ∙ ap (λ n. x * 16 + get_or values n 0) after
