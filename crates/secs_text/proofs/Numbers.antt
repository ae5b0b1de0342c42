-- The numbers that words represent.
use Rattle.std.proofs.Common.{◌≡◌, ℕ, zero, suc, ◌+◌, ◌-◌, ◌*◌, ◌%◌, ◌^◌, ◌<◌, ◌≤◌, Bool, true, false, ◌&&◌, List, [], ◌∷◌, length, take, get_or, refl, sym, ap, ◌∙◌, arith, if◌then◌else◌}
use Rattle.std.specs.Prelude.{Some, None, nat_lt, nat_le, cond, ◌==◌}
use Rattle.std.specs.List.{list_all, prefix_len}
use Rattle.std.proofs.lemmas.List.Folds.{list_all_at}
use Rattle.std.proofs.lemmas.List.Sums.{prefix_len_stops}
use Rattle.std.proofs.Math.Nat.{pow-le-pow_right}
use Rattle.std.specs.Str.Parse.{digits_value, AllDigits}
use Rattle.std.specs.Char.{digit_value}
use Rattle.std.proofs.lemmas.Int.Digits.{digits_value_more, digits_value-lt}
use Rattle.std.proofs.lemmas.Str.Parse.{digits_value-take-le}
use Rattle.std.proofs.lemmas.Str.{digit_value_digit}
use Rattle.std.proofs.lemmas.Bool.{false_from_ne_true, eqb-true, leb-true, le-ltb, lt-ltb}
use Rattle.std.specs.Int.{IsInRange}
use Rattle.secs_text.specs.Octets.{is_digit}
use Rattle.secs_text.specs.Words.{is_numeral, number_below}
use Rattle.secs_text.proofs.Prefixes.{both}

all_at : (w : List ℕ) (i : ℕ) → list_all is_digit w ≡ true → i < length w → is_digit (get_or w i 0) ≡ true
all_at [] i all lt = absurd (omega arith)
all_at (c ∷ w) zero all lt = (both _ _ all).0
all_at (c ∷ w) (suc i) all lt = all_at w i (both (is_digit c) _ all).1 (omega arith)

pub numeral_digits : (w : List ℕ) → is_numeral w ≡ true → list_all is_digit w ≡ true
numeral_digits [] e = cc
numeral_digits (c ∷ w) e = (both _ _ e).0

digit_is : (c : ℕ) → is_digit c ≡ true → digit_value c ≡ c - 48
digit_is c e =
    let parts = both _ _ e in
    let range : IsInRange 48 57 c = (leb-true 48 c parts.0, leb-true c 57 parts.1) in
    omega (arith, digit_value_digit c range)

-- One more digit.
pub value_more : (w : List ℕ) (i : ℕ) → is_digit (get_or w i 0) ≡ true → i < length w → digits_value 10 (take (i + 1) w) ≡ digits_value 10 (take i w) * 10 + (get_or w i 0 - 48)
value_more w i digit lt = digits_value_more 10 w i lt ∙ ap (λ d. digits_value 10 (take i w) * 10 + d) (digit_is (get_or w i 0) digit)

pub numeral_more : (w : List ℕ) (i : ℕ) → is_numeral w ≡ true → i < length w → digits_value 10 (take (i + 1) w) ≡ digits_value 10 (take i w) * 10 + (get_or w i 0 - 48)
numeral_more w i numeral lt = value_more w i (all_at w i (numeral_digits w numeral) lt) lt

pub modulo_more : (number before after digit : ℕ) → number ≡ before % 2 ^ 64 → after ≡ before * 10 + digit → (number * 10 % 2 ^ 64 + digit) % 2 ^ 64 ≡ after % 2 ^ 64
modulo_more number before after digit is more = omega arith

nothing_unless : (b : Bool) (n : ℕ) → (if b && false then Some n else None) ≡ None
nothing_unless true n = refl
nothing_unless false n = refl

pub take_all : (w : List ℕ) (k : ℕ) → length w ≤ k → take k w ≡ w
take_all [] zero le = refl
take_all [] (suc k) le = refl
take_all (c ∷ w) zero le = absurd (omega arith)
take_all (c ∷ w) (suc k) le = ap (λ o. c ∷ o) (take_all w k (omega arith))

-- If the first digits are too large, the complete word is.
pub too_large : (limit : ℕ) (w : List ℕ) (k : ℕ) → limit ≤ digits_value 10 (take k w) → number_below limit w ≡ None
unfolding number_below
too_large limit w k le =
    let big : limit ≤ digits_value 10 w = omega (arith, digits_value-take-le 10 w k (omega arith)) in
    let e : nat_lt (digits_value 10 w) limit ≡ false = le-ltb (digits_value 10 w) limit big in
    rw e (nothing_unless (is_numeral w) (digits_value 10 w))

pub just : (limit : ℕ) (w : List ℕ) (k n : ℕ) → is_numeral w ≡ true → length w ≤ k → n ≡ digits_value 10 (take k w) → n < limit → number_below limit w ≡ Some n
unfolding number_below
just limit w k n numeral done is lt =
    let all : n ≡ digits_value 10 w = is ∙ ap (λ o. digits_value 10 o) (take_all w k done) in
    let small : digits_value 10 w < limit = omega arith in
    let e : nat_lt (digits_value 10 w) limit ≡ true = lt-ltb (digits_value 10 w) limit small in
    rw (numeral, e) (ap (λ k. Some k) (sym all))

-- Digits at the start are digits.
first_digits : (c n : ℕ) (w : List ℕ) (b : Bool) → is_digit c ≡ b → list_all is_digit (take n w) ≡ true → list_all is_digit (take (cond b (1 + n) 0) (c ∷ w)) ≡ true
first_digits c n w true is all = let e : 1 + n ≡ suc n = omega arith in rw (e, is) all
first_digits c n w false is all = refl

pub digits_before : (w : List ℕ) → list_all is_digit (take (prefix_len is_digit w) w) ≡ true
digits_before [] = refl
digits_before (c ∷ w) = first_digits c (prefix_len is_digit w) w (is_digit c) refl (digits_before w)

pub digits_front : (w front : List ℕ) (n : ℕ) → n ≡ prefix_len is_digit w → front ≡ take n w → list_all is_digit front ≡ true
digits_front w front n is e = ap (λ o. list_all is_digit o) (e ∙ ap (λ k. take k w) is) ∙ digits_before w

pub all_digits : (w : List ℕ) → prefix_len is_digit w ≡ length w → list_all is_digit w ≡ true
all_digits w e = ap (λ o. list_all is_digit o) (sym (take_all w (prefix_len is_digit w) (omega arith))) ∙ digits_before w

-- ---- words that are not numerals
pub no_octets : (w : List ℕ) → length w < 1 → is_numeral w ≡ false
no_octets [] lt = refl
no_octets (c ∷ w) lt = absurd (omega arith)

pub other_octet : (w : List ℕ) → prefix_len is_digit w < length w → is_numeral w ≡ false
other_octet [] lt = refl
other_octet (c ∷ w) lt =
    let e : list_all is_digit (c ∷ w) ≡ false = list_all_at is_digit (c ∷ w) (prefix_len is_digit (c ∷ w)) 0 lt (prefix_len_stops is_digit (c ∷ w) 0 lt) in
    rw e refl

and_false : (b : Bool) → b && false ≡ false
and_false true = refl
and_false false = refl

pub not_empty : (c : ℕ) (w : List ℕ) → (length (c ∷ w) == 0) ≡ false
not_empty c w = false_from_ne_true (length (c ∷ w) == 0) (λ e. let none = eqb-true (length (c ∷ w)) 0 e in absurd (omega arith))

pub leading_zero : (w : List ℕ) → get_or w 0 0 ≡ 48 → 1 < length w → is_numeral w ≡ false
leading_zero [] e lt = refl
leading_zero (c ∷ []) e lt = absurd (omega arith)
leading_zero (c ∷ d ∷ w) e lt =
    let same : c ≡ 48 = e in
    rw (same, not_empty d w) (and_false (list_all is_digit (48 ∷ d ∷ w)))

pub no_number : (limit : ℕ) (w : List ℕ) → is_numeral w ≡ false → number_below limit w ≡ None
unfolding number_below
no_number limit w e = rw e refl

-- Few enough digits for a number below 2^64.
digits_are : (w : List ℕ) → list_all is_digit w ≡ true → AllDigits 10 w
digits_are [] all = tt
digits_are (c ∷ w) all =
    let parts = both (is_digit c) _ all in
    let value = digit_is c parts.0 in
    let most = leb-true c 57 (both (nat_le 48 c) _ parts.0).1 in
    (omega (arith, value, most), digits_are w parts.1)

few_digits : (w : List ℕ) → list_all is_digit w ≡ true → length w ≤ 19 → digits_value 10 w < 2 ^ 64
few_digits w all few =
    let below = digits_value-lt 10 w (digits_are w all) in
    let most : 10 ^ length w ≤ 10000000000000000000 = pow-le-pow_right (omega arith) few in
    omega (arith, below, most)

pub few_just : (w : List ℕ) (n : ℕ) → list_all is_digit w ≡ true → is_numeral w ≡ true → length w ≤ 19 → n ≡ digits_value 10 w % 2 ^ 64 → Some n ≡ number_below (2 ^ 64) w
few_just w n all numeral few is =
    let below = few_digits w all few in
    let same : n ≡ digits_value 10 w = omega (arith, below, is) in
    sym (just (2 ^ 64) w (length w) n numeral (omega arith) (same ∙ ap (λ o. digits_value 10 o) (sym (take_all w (length w) (omega arith)))) (omega (arith, below, same)))
