-- Printed words represent the values that they are printed for.
use Rattle.std.proofs.Common.{◌≡◌, ℕ, ℤ, pos, negsuc, zero, suc, ◌+◌, ◌-◌, ◌*◌, ◌/◌, ◌%◌, ◌^◌, ◌<◌, ◌≤◌, Bool, true, false, ◌&&◌, ◌||◌, not, List, [], ◌∷◌, length, get_or, refl, sym, ap, ◌∙◌, arith, if◌then◌else◌}
use Rattle.std.specs.Prelude.{Some, option_map, option_and_then, nat_lt, nat_le, ◌==◌}
use Rattle.std.specs.List.{list_all, flat_map}
use Rattle.std.specs.Int.Signed.{mag}
use Rattle.std.specs.Fmt.{decimal, signed_decimal, digit_glyph}
use Rattle.std.specs.Str.Parse.{AllDigits, digits_value}
use Rattle.std.proofs.lemmas.Fmt.{decimal_is_IsNumeral, decimal_digit, first_decimal}
use Rattle.std.proofs.lemmas.Str.Parse.{digit_from_value}
use Rattle.std.proofs.lemmas.Bool.{false_from_ne_true, leb-true, le-leb, eq-eqb, eqb-true, ltb-true, ltb-false}
use Rattle.secs_text.specs.InnerCanonicalTokens.{IsWord}
use Rattle.secs_text.specs.Octets.{is_digit, is_letter, is_of_word}
use Rattle.secs_text.specs.Words.{is_numeral, number_below, signed_below, negative_of, hex_digit, octet_from, octet_of_digits, octet_then, hex_octets, octets_of, only, octet_of, sized, float_of, truth_of}
use Rattle.secs_text.specs.Body.{WordEncoding, hex_octet, truth_letter, signed_number, unsigned_number, hex_float, IsEncoded, encoded_bytes}
use Rattle.secs_text.specs.InRange.{IsOctets, Fits}
use Rattle.secs_text.specs.Printed.{two_digits, hexadecimal, truth_word, written}
use Rattle.secs_text.proofs.Numbers.{just, take_all}

pub and_true : (a b : Bool) → a ≡ true → b ≡ true → a && b ≡ true
and_true true b e f = f
and_true false b e f = cc

and_false : (a b : Bool) → b ≡ false → a && b ≡ false
and_false true b e = e
and_false false b e = refl

or_true : (a b c : Bool) → a ≡ true → a || b || c ≡ true
or_true true b c e = refl
or_true false b c e = cc

or_second : (a b c : Bool) → b ≡ true → a || b || c ≡ true
or_second true b c e = refl
or_second false true c e = refl
or_second false false c e = cc

-- ---- decimal

digit_is : (c : ℕ) → 48 ≤ c → c ≤ 57 → is_digit c ≡ true
digit_is c low high = and_true _ _ (le-leb 48 c low) (le-leb c 57 high)

no_digit : (c : ℕ) → 57 < c → is_digit c ≡ false
no_digit c high = and_false (nat_le 48 c) (nat_le c 57) (false_from_ne_true (nat_le c 57) (λ e. let le = leb-true c 57 e in absurd (omega arith)))

letter_is : (c : ℕ) → 65 ≤ c → c ≤ 90 → is_letter c ≡ true
letter_is c low high = ap (λ b. b || (nat_le 97 c && nat_le c 122)) (and_true _ _ (le-leb 65 c low) (le-leb c 90 high))

pub of_word_digit : (c : ℕ) → is_digit c ≡ true → is_of_word c ≡ true
of_word_digit c e = or_true (is_digit c) (is_letter c) (c == 45) e

of_word_letter : (c : ℕ) → is_letter c ≡ true → is_of_word c ≡ true
of_word_letter c e = or_second (is_digit c) (is_letter c) (c == 45) e

pub all_digits : (ds : List ℕ) → AllDigits 10 ds → list_all is_digit ds ≡ true
all_digits [] h = refl
all_digits (c ∷ cs) h = let range = digit_from_value c h.0 in and_true _ _ (digit_is c range.0 range.1) (all_digits cs h.1)

split_digit : (c : ℕ) (cs : List ℕ) (b : Bool) → is_digit c ≡ b → (list_all is_digit cs ≡ true → list_all is_of_word cs ≡ true) → b && list_all is_digit cs ≡ true → is_of_word c && list_all is_of_word cs ≡ true
split_digit c cs true is more e = and_true _ _ (of_word_digit c is) (more e)
split_digit c cs false is more e = cc

pub all_of_word : (ds : List ℕ) → list_all is_digit ds ≡ true → list_all is_of_word ds ≡ true
all_of_word [] e = refl
all_of_word (c ∷ cs) e = split_digit c cs (is_digit c) refl (all_of_word cs) e

leading : (c k : ℕ) (b : Bool) → (c == 48) ≡ b → (c ≡ 48 → suc k ≡ 1) → not b || (k == 0) ≡ true
leading c k true e alone = let none : k ≡ 0 = (let one = alone (eqb-true c 48 e) in omega arith) in eq-eqb k 0 none
leading c k false e alone = refl

numeral_of : (ds : List ℕ) → AllDigits 10 ds → 0 < length ds → (get_or ds 0 0 ≡ 48 → length ds ≡ 1) → is_numeral ds ≡ true
numeral_of [] h some alone = absurd (omega arith)
numeral_of (c ∷ cs) h some alone = and_true _ _ (all_digits (c ∷ cs) h) (leading c (length cs) (c == 48) refl alone)

zero_alone : (n : ℕ) → n < 2 ^ 64 → get_or (decimal n) 0 0 ≡ 48 → length (decimal n) ≡ 1
zero_alone zero lt e = ap length (decimal_digit 0 (omega arith))
zero_alone (suc n) lt e = absurd (let more = first_decimal (suc n) (omega arith) lt in omega arith)

pub decimal_digits : (n : ℕ) → n < 2 ^ 64 → AllDigits 10 (decimal n) × (0 < length (decimal n))
decimal_digits n lt = let d = decimal_is_IsNumeral n lt in (d.0.1, d.0.0)

pub decimal_word : (n : ℕ) → n < 2 ^ 64 → IsWord (decimal n)
decimal_word n lt = let d = decimal_digits n lt in record { some = d.1; all = all_of_word (decimal n) (all_digits (decimal n) d.0) }

-- Reading returns the printed number.
pub number_read : (limit n : ℕ) → n < 2 ^ 64 → n < limit → number_below limit (decimal n) ≡ Some n
number_read limit n fits lt =
    let d = decimal_is_IsNumeral n fits in
    let w = decimal n in
    just limit w (length w) n (numeral_of w d.0.1 d.0.0 (zero_alone n fits)) (omega arith) (sym d.1 ∙ ap (λ o. digits_value 10 o) (sym (take_all w (length w) (omega arith)))) lt

positive : (half n c : ℕ) (cs : List ℕ) (b : Bool) → (c == 45) ≡ b → (c ≡ 45 → ⊥) → number_below half (c ∷ cs) ≡ Some n → (if b then option_and_then negative_of (number_below (half + 1) cs) else option_map pos (number_below half (c ∷ cs))) ≡ Some (pos n)
positive half n c cs true e other is = absurd (other (eqb-true c 45 e))
positive half n c cs false e other is = ap (λ o. option_map pos o) is

signed_plain : (half n : ℕ) (ds : List ℕ) → AllDigits 10 ds → 0 < length ds → number_below half ds ≡ Some n → signed_below half ds ≡ Some (pos n)
unfolding signed_below
signed_plain half n [] h some is = absurd (omega arith)
signed_plain half n (c ∷ cs) h some is = let range = digit_from_value c h.0 in positive half n c cs (c == 45) refl (λ e. omega arith) is

negative_is : (n : ℕ) → negative_of (suc n) ≡ Some (negsuc n)
negative_is n =
    let other : (suc n == 0) ≡ false = false_from_ne_true (suc n == 0) (λ e. let same = eqb-true (suc n) 0 e in absurd (omega arith)) in
    let less : suc n - 1 ≡ n = omega arith in
    rw other (ap (λ k. Some (negsuc k)) less)

pub signed_read : (half : ℕ) (z : ℤ) → half ≤ 2 ^ 63 → mag z < half → signed_below half (signed_decimal z) ≡ Some z
unfolding signed_below
signed_read half (pos n) small lt = let d = decimal_digits n (omega arith) in signed_plain half n (decimal n) d.0 d.1 (number_read half n (omega arith) lt)
signed_read half (negsuc n) small lt = ap (λ o. option_and_then negative_of o) (number_read (half + 1) (suc n) (omega arith) (omega arith)) ∙ negative_is n

signed_word : (z : ℤ) → mag z < 2 ^ 63 → IsWord (signed_decimal z)
signed_word (pos n) lt = decimal_word n (omega arith)
signed_word (negsuc n) lt = let w = decimal_word (suc n) (omega arith) in record { some = omega arith; all = w.all }

-- ---- hexadecimal

low_digit : (c d : ℕ) → c ≡ 48 + d → d < 10 → hex_digit c ≡ Some d
low_digit c d e lt =
    let is : is_digit c ≡ true = digit_is c (omega arith) (omega arith) in
    let back : c - 48 ≡ d = omega arith in
    rw is (ap (λ k. Some k) back)

high_digit : (c d : ℕ) → c ≡ 55 + d → 10 ≤ d → d < 16 → hex_digit c ≡ Some d
high_digit c d e low lt =
    let is : is_digit c ≡ false = no_digit c (omega arith) in
    let upper : nat_le 65 c && nat_le c 70 ≡ true = and_true _ _ (le-leb 65 c (omega arith)) (le-leb c 70 (omega arith)) in
    let back : c - 55 ≡ d = omega arith in
    rw (is, upper) (ap (λ k. Some k) back)

glyph_cases : (d : ℕ) (b : Bool) → nat_lt d 10 ≡ b → d < 16 → (hex_digit (if b then 48 + d else 55 + d) ≡ Some d) × (is_of_word (if b then 48 + d else 55 + d) ≡ true)
glyph_cases d true e lt = let small = ltb-true d 10 e in (low_digit (48 + d) d refl small, of_word_digit (48 + d) (digit_is (48 + d) (omega arith) (omega arith)))
glyph_cases d false e lt = let big = ltb-false d 10 e in (high_digit (55 + d) d refl big lt, of_word_letter (55 + d) (letter_is (55 + d) (omega arith) (omega arith)))

glyph : (d : ℕ) → d < 16 → (hex_digit (digit_glyph true d) ≡ Some d) × (is_of_word (digit_glyph true d) ≡ true)
glyph d lt = glyph_cases d (nat_lt d 10) refl lt

octet_read : (c : ℕ) → c < 256 → octet_of_digits (digit_glyph true (c / 16)) (digit_glyph true (c % 16)) ≡ Some c
octet_read c lt =
    let whole : 16 * (c / 16) + c % 16 ≡ c = omega arith in
    ap (λ o. octet_from o (hex_digit (digit_glyph true (c % 16)))) (glyph (c / 16) (omega arith)).0
    ∙ ap (λ o. octet_from (Some (c / 16)) o) (glyph (c % 16) (omega arith)).0 ∙ ap (λ k. Some k) whole

hex_octets_read : (octets : List ℕ) → IsOctets octets → hex_octets (flat_map two_digits octets) ≡ Some octets
hex_octets_read [] h = refl
hex_octets_read (c ∷ octets) h =
    ap (λ o. octet_then o (hex_octets (flat_map two_digits octets))) (octet_read c (h 0))
    ∙ ap (λ o. octet_then (Some c) o) (hex_octets_read octets (λ k. h (suc k)))

octets_read : (octets : List ℕ) → IsOctets octets → octets_of (hexadecimal octets) ≡ Some octets
unfolding octets_of
octets_read octets h = hex_octets_read octets h

digits_of_word : (octets : List ℕ) → IsOctets octets → list_all is_of_word (flat_map two_digits octets) ≡ true
digits_of_word [] h = refl
digits_of_word (c ∷ octets) h =
    let lt : c < 256 = h 0 in
    and_true _ _ (glyph (c / 16) (omega arith)).1 (and_true _ _ (glyph (c % 16) (omega arith)).1 (digits_of_word octets (λ k. h (suc k))))

hexadecimal_word : (octets : List ℕ) → IsOctets octets → IsWord (hexadecimal octets)
hexadecimal_word octets h = record { some = omega arith; all = digits_of_word octets h }

one_octet : (c : ℕ) → c < 256 → IsOctets (c ∷ [])
one_octet c lt zero = lt
one_octet c lt (suc k) = omega arith

pub octet_word : (c : ℕ) → c < 256 → IsWord (hexadecimal (c ∷ []))
octet_word c lt = hexadecimal_word (c ∷ []) (one_octet c lt)

pub octet_is_read : (c : ℕ) → c < 256 → octet_of (hexadecimal (c ∷ [])) ≡ Some c
unfolding octet_of
octet_is_read c lt = ap (λ o. option_and_then only o) (octets_read (c ∷ []) (one_octet c lt))

float_is_read : (size : ℕ) (octets : List ℕ) → length octets ≡ size → IsOctets octets → float_of size (hexadecimal octets) ≡ Some octets
unfolding float_of
float_is_read size octets long h =
    let right : (length octets == size) ≡ true = eq-eqb (length octets) size long in
    ap (λ o. option_and_then (sized size) o) (octets_read octets h) ∙ rw right refl

truth_is_read : (b : Bool) → truth_of (truth_word b) ≡ Some b
unfolding truth_of
truth_is_read true = refl
truth_is_read false = refl

truth_is_word : (b : Bool) → IsWord (truth_word b)
truth_is_word true = record { some = omega arith; all = refl }
truth_is_word false = record { some = omega arith; all = refl }

-- ---- values

pub written_word : (s : WordEncoding) (x : IsEncoded s) → Fits s x → IsWord (written s x)
written_word hex_octet x h = octet_word x h
written_word truth_letter x h = truth_is_word x
written_word (signed_number half) x h = signed_word x (omega (arith, h.0, h.1))
written_word (unsigned_number limit) x h = decimal_word x (omega (arith, h.0, h.1))
written_word (hex_float size) x h = hexadecimal_word x h.1

pub written_read : (s : WordEncoding) (x : IsEncoded s) → Fits s x → encoded_bytes s (written s x) ≡ Some x
written_read hex_octet x h = octet_is_read x h
written_read truth_letter x h = truth_is_read x
written_read (signed_number half) x h = signed_read half x h.0 h.1
written_read (unsigned_number limit) x h = number_read limit x (omega (arith, h.0, h.1)) h.1
written_read (hex_float size) x h = float_is_read size x h.0 h.1
