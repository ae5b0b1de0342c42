-- Decimal numbers and words.
use Rattle.std.proofs.Common.{◌≡◌, ◌<◌, ◌≤◌, ◌+◌, ◌-◌, ◌*◌, ◌^◌, ◌%◌, ◌++◌, ℕ, List, [], ◌∷◌, length, take, drop, take-append-drop, get_or, true, false, eqb, ltb, Ok, Err, Some, None, refl, sym, ap, ◌∙◌, subst, arith, inl, inr, ⊎_elim}
use Rattle.std.specs.Borrow.{Bor}
use Rattle.std.specs.Prelude.{◌≢◌, MatchResult, IfSome, IfNone, Option, Result, decimal, nat_lt, option_map}
use Rattle.std.specs.Result.{result_ok}
use Rattle.std.specs.Str.{all_ascii_digits, IsUtf8}
use Rattle.std.proofs.lemmas.Str.{IsUtf8-from_ascii}
use Rattle.std.specs.List.{list_all}
use Rattle.std.specs.Char.{is_ascii_digit, digit_value}
use Rattle.std.specs.Str.Parse.{digits_value, ParsesUnsigned}
use Rattle.std.proofs.lemmas.Bool.{leb-true, le-leb, and_parts, and_from, lt-ltb, ltb-true, eqb-true, ne_eqb, not-true, eqb-false, cases_eq, false_from_ne_true, cases_Bool, not_from_false, and_cases, and_left, and_right, le-ltb, ltb-false}
use Rattle.std.proofs.lemmas.Str.{digit_value_digit}
use Rattle.std.proofs.lemmas.Int.Digits.{digits_value_more}
use Rattle.std.proofs.lemmas.List.Folds.{list_all_more}
use Rattle.std.proofs.lemmas.Option.{cond_some}
use Rattle.std.proofs.lemmas.Str.Parse.{IsNumeralModel, numerals_by_value, tells_all_ascii_digits, parse_digits, not_in_digits, digits_value_short}
use Rattle.std.proofs.lemmas.Grind.{get_or_default_zero}
use Rattle.std.proofs.lemmas.Fmt.{digits_decimal, digits_value-decimal, decimal_nonempty, first_decimal, decimal-digits_value, decimal_digit, IsAscii-from_digits}
use Rattle.std.proofs.lemmas.List.{length-take, drop_more, get_or-take}
use Rattle.std.proofs.lemmas.List.Elements.{All-head, All-tail}
use Rattle.hsms_log.specs.Lines.{HasNone}
use Rattle.hsms_log.specs.InnerReading.{number_of, is_decimal, has_leading_zero, word_at, number_at, ◌>>=◌}
use Rattle.hsms_log.proofs.LineBindings.{bind_some, some_inj}

-- The definitions of std for digits and their value.
pub own : IsNumeralModel (λ ds. all_ascii_digits ds ≡ true) (digits_value 10)
own = numerals_by_value _ tells_all_ascii_digits

digits_of_all : (ds : List ℕ) → list_all is_ascii_digit ds ≡ true → all_ascii_digits ds ≡ true
digits_of_all [] h = refl
digits_of_all (d ∷ ds) h = let parts = and_parts _ _ h in and_from _ _ parts.0 (digits_of_all ds parts.1)

pub all_of_digits : (ds : List ℕ) → all_ascii_digits ds ≡ true → list_all is_ascii_digit ds ≡ true
all_of_digits [] h = refl
all_of_digits (d ∷ ds) h = let parts = and_parts _ _ h in and_from _ _ parts.0 (all_of_digits ds parts.1)

-- Consequences of the test of a decimal word.
pub decimal_parts : (word : List ℕ) → is_decimal word ≡ true
    → (all_ascii_digits word ≡ true) × (0 < length word) × (get_or word 0 0 ≡ 48 → length word ≡ 1)
decimal_parts word h =
    let a = and_parts _ _ h in
    let b = and_parts _ _ a.1 in
    let some : 0 < length word = ltb-true _ _ b.0 in
    let last : get_or word 0 0 ≡ 48 → length word ≡ 1 =
    λ e. ⊎_elim
    (λ other. absurd (eqb-false _ _ other e))
    (λ short. let le : length word ≤ 1 = ltb-false _ _ short in omega arith)
    (and_cases _ _ (not-true _ b.1)) in
    (digits_of_all word a.0, some, last)

no_leading_zero : (n : ℕ) → n < 2 ^ 64 → has_leading_zero (decimal n) ≡ false
no_leading_zero n lt =
    elim (cases_eq n 0) [
      | inl none ↦
          let e : length (decimal n) ≡ 1 = ap length (decimal_digit n (omega arith)) in
          and_right (eqb (get_or (decimal n) 0 0) 48) (ltb 1 (length (decimal n))) (le-ltb 1 (length (decimal n)) (omega arith))
      | inr more ↦
          let first : 48 < get_or (decimal n) 0 0 = first_decimal n (omega arith) lt in
          and_left (eqb (get_or (decimal n) 0 0) 48) (ltb 1 (length (decimal n))) (ne_eqb (get_or (decimal n) 0 0) 48 (λ e. omega (arith, e, first)))
    ]

-- A decimal word passes the test.
is_decimal-decimal : (n : ℕ) → n < 2 ^ 64 → is_decimal (decimal n) ≡ true
is_decimal-decimal n lt =
    let digits : list_all is_ascii_digit (decimal n) ≡ true = all_of_digits (decimal n) (digits_decimal own n lt) in
    let some : 0 < length (decimal n) = decimal_nonempty n lt in
    let leading : has_leading_zero (decimal n) ≡ false = no_leading_zero n lt in
    and_from _ _ digits (and_from _ _ (lt-ltb 0 (length (decimal n)) some) (not_from_false _ leading))

pub number_of-decimal : (n : ℕ) → n < 2 ^ 64 → number_of (decimal n) ≡ Some n
unfolding number_of
number_of-decimal n lt =
    let same : digits_value 10 (decimal n) ≡ n = digits_value-decimal own n lt in
    let small : nat_lt (digits_value 10 (decimal n)) (2 ^ 64) ≡ true = lt-ltb _ _ (omega arith) in
    rw (is_decimal-decimal n lt, small, same) refl

pub number_of-some : (word : List ℕ) (n : ℕ) → number_of word ≡ Some n → (n < 2 ^ 64) × (word ≡ decimal n)
unfolding number_of
number_of-some word n h =
    let parts = cond_some _ _ _ h in
    let tests = and_parts _ _ parts.0 in
    let d = decimal_parts word tests.0 in
    let same : digits_value 10 word ≡ n = parts.1 in
    let small : digits_value 10 word < 2 ^ 64 = ltb-true _ _ tests.1 in
    let back : decimal (digits_value 10 word) ≡ word = decimal-digits_value own word d.0 d.1 d.2 small in
    (omega arith, sym back ∙ ap decimal same)

-- The result of the parse of a decimal word by std.
pub parsed : {E : Type 0} (word : List ℕ) (r : Result ℕ E) → ParsesUnsigned 64 10 word r → is_decimal word ≡ true → result_ok r ≡ number_of word
unfolding number_of
parsed {E} word (Ok x) h d =
    let parts = decimal_parts word d in
    let k = parse_digits own {E = E} 64 word (Ok x) h parts.0 in
    let small : nat_lt (digits_value 10 word) (2 ^ 64) ≡ true = lt-ltb _ _ k.0.1 in
    rw (d, small) (ap Some k.1)
parsed {E} word (Err e) h d =
    let parts = decimal_parts word d in
    let k = parse_digits own {E = E} 64 word (Err e) h parts.0 in
    let big : nat_lt (digits_value 10 word) (2 ^ 64) ≡ false = false_from_ne_true _ (λ t. k (parts.1, ltb-true _ _ t)) in
    rw (d, big) refl

pub number_of-none : (word : List ℕ) → is_decimal word ≡ false → None ≡ number_of word
unfolding number_of
number_of-none word h = rw h refl

-- ---- words

-- No digit is a space.
spaceless : (word : List ℕ) → list_all is_ascii_digit word ≡ true → HasNone 32 word
spaceless word digits k d within =
    let here : get_or word k d ≡ get_or word k 0 = get_or_default_zero word k d within in
    let other : get_or word k 0 ≢ 32 = not_in_digits own word 32 (digits_of_all word digits) (λ r. omega (arith, r)) k within in
    ne_eqb _ _ (λ e. other (sym here ∙ e))

-- No zero precedes other digits.
plain : (word : List ℕ) → (get_or word 0 0 ≡ 48 → length word ≤ 1) → has_leading_zero word ≡ false
plain word short =
    elim (cases_eq (get_or word 0 0) 48) [
      | inl zero ↦ and_right (eqb (get_or word 0 0) 48) (ltb 1 (length word)) (le-ltb 1 (length word) (short zero))
      | inr other ↦ and_left (eqb (get_or word 0 0) 48) (ltb 1 (length word)) (ne_eqb (get_or word 0 0) 48 other)
    ]

-- No digit of a number is a space.
pub HasNone-decimal : (n : ℕ) → n < 2 ^ 64 → HasNone 32 (decimal n)
HasNone-decimal n lt k d within =
    let here : get_or (decimal n) k d ≡ get_or (decimal n) k 0 = get_or_default_zero (decimal n) k d within in
    let other : get_or (decimal n) k 0 ≢ 32 = not_in_digits own (decimal n) 32 (digits_decimal own n lt) (λ r. omega (arith, r)) k within in
    ne_eqb _ _ (λ e. other (sym here ∙ e))

pub word_at-found : (front rest : List ℕ) → HasNone 32 front → word_at (front ++ 32 ∷ rest) ≡ Some (front, rest)
word_at-found [] rest h = refl
word_at-found (octet ∷ front) rest h =
    let other : eqb octet 32 ≡ false = All-head (λ x. eqb x 32 ≡ false) octet front h in
    let later = word_at-found front rest (All-tail (λ x. eqb x 32 ≡ false) octet front h) in
    rw (other, later) refl

pub word_at-none : (text : List ℕ) → HasNone 32 text → word_at text ≡ None
word_at-none [] h = refl
word_at-none (octet ∷ text) h =
    let other : eqb octet 32 ≡ false = All-head (λ x. eqb x 32 ≡ false) octet text h in
    let later = word_at-none text (All-tail (λ x. eqb x 32 ≡ false) octet text h) in
    rw (other, later) refl

pub pair_inj : {A B : Type 0} (a c : A) (b d : B) → ◌≡◌ {A = Option (A × B)} (Some (a, b)) (Some (c, d)) → (a ≡ c) × (b ≡ d)
pair_inj {A} {B} a c b d h =
    let both = some_inj {A = A × B} (a, b) (c, d) h in
    (ap (λ p. p.0) both, ap (λ p. p.1) both)

at_space : (octet : ℕ) (text front rest : List ℕ) → octet ≡ 32 → ◌≡◌ {A = Option (List ℕ × List ℕ)} (Some ([], text)) (Some (front, rest)) → octet ∷ text ≡ front ++ 32 ∷ rest
at_space octet text front rest is h =
    let both = pair_inj [] front text rest h in
    let P : List ℕ → Type 0 = λ xs. octet ∷ text ≡ xs ++ 32 ∷ rest in
    subst P both.0 (ap (λ x. x ∷ text) is ∙ ap (λ xs. 32 ∷ xs) both.1)

past_space : (octet : ℕ) (text front rest : List ℕ) (w : List ℕ × List ℕ) → text ≡ w.0 ++ 32 ∷ w.1 → ◌≡◌ {A = Option (List ℕ × List ℕ)} (Some (octet ∷ w.0, w.1)) (Some (front, rest))
    → octet ∷ text ≡ front ++ 32 ∷ rest
past_space octet text front rest w later h =
    let both = pair_inj (octet ∷ w.0) front w.1 rest h in
    let P : List ℕ → Type 0 = λ xs. octet ∷ text ≡ xs ++ 32 ∷ rest in
    subst P both.0 (ap (λ xs. octet ∷ xs) later ∙ ap (λ xs. octet ∷ (w.0 ++ 32 ∷ xs)) both.1)

pub word_at-some : (text front rest : List ℕ) → word_at text ≡ Some (front, rest) → text ≡ front ++ 32 ∷ rest
word_at-some [] front rest h = cc h
word_at-some (octet ∷ text) front rest h =
    elim (cases_Bool (eqb octet 32)) [
      | inl space ↦ at_space octet text front rest (eqb-true octet 32 space) (rw space at h)
      | inr other ↦
          let later : (word_at text >>= λ w. Some (octet ∷ w.0, w.1)) ≡ Some (front, rest) = rw other at h in
          let a = bind_some (word_at text) (λ w. Some (octet ∷ w.0, w.1)) (front, rest) later in
          past_space octet text front rest a.0 (word_at-some text a.0.0 a.0.1 a.1) a.2
    ]

pub number_at-encoded_bytes : (n : ℕ) (rest : List ℕ) → n < 2 ^ 64 → number_at (decimal n ++ 32 ∷ rest) ≡ Some (n, rest)
unfolding number_at
number_at-encoded_bytes n rest lt =
    rw (word_at-found (decimal n) rest (HasNone-decimal n lt), number_of-decimal n lt) refl

numbered : (text word after : List ℕ) (m n : ℕ) (rest : List ℕ) → word_at text ≡ Some (word, after) → number_of word ≡ Some m
    → ◌≡◌ {A = Option (ℕ × List ℕ)} (Some (m, after)) (Some (n, rest)) → (n < 2 ^ 64) × (text ≡ decimal n ++ 32 ∷ rest)
numbered text word after m n rest a b h =
    let found = number_of-some word m b in
    let both = pair_inj m n after rest h in
    let small : m < 2 ^ 64 = found.0 in
    let same : m ≡ n = both.0 in
    (omega arith, word_at-some text word after a ∙ ap (λ x. x ++ 32 ∷ after) (found.1 ∙ ap decimal same) ∙ ap (λ x. decimal n ++ 32 ∷ x) both.1)

pub number_at-some : (text : List ℕ) (n : ℕ) (rest : List ℕ) → number_at text ≡ Some (n, rest) → (n < 2 ^ 64) × (text ≡ decimal n ++ 32 ∷ rest)
unfolding number_at
number_at-some text n rest h =
    let a = bind_some (word_at text) _ (n, rest) h in
    let b = bind_some (number_of a.0.0) _ (n, rest) a.2 in
    numbered text a.0.0 a.0.1 b.0 n rest a.1 b.1 b.2

-- A split at the first space, by its clauses.
pub split_word : (text : List ℕ) (r : Option (Bor (List ℕ) × Bor (List ℕ)))
    → IfSome r (λ x. (text ≡ x.0.now ++ 32 ∷ x.1.now) × HasNone 32 x.0.now) → IfNone r (HasNone 32 text)
    → option_map (λ x. (x.0.now, x.1.now)) r ≡ word_at text
split_word text (Some x) found none = sym (ap word_at found.0 ∙ word_at-found x.0.now x.1.now found.1)
split_word text None found none = sym (word_at-none text none)

-- ---- text and numbers of std

utf8_of_decimal : (word : List ℕ) → is_decimal word ≡ true → IsUtf8 word
utf8_of_decimal word d = IsUtf8-from_ascii word (IsAscii-from_digits word (own.to word (decimal_parts word d).0))

pub text_is : {E : Type 0} (P : Bor (List ℕ) → Type 0) (Q : E → Type 0) (bs : List ℕ) (r : Result (Bor (List ℕ)) E) (x : Bor (List ℕ))
    → MatchResult r P Q → ((s : Bor (List ℕ)) → P s → s.now ≡ bs) → result_ok r ≡ Some x → x.now ≡ bs
text_is P Q bs (Ok s) x h is e = sym (ap (λ b. b.now) (some_inj s x e)) ∙ is s h
text_is P Q bs (Err f) x h is e = cc e

pub text_found : {E : Type 0} (P : Bor (List ℕ) → Type 0) (Q : E → Type 0) (word : List ℕ) (r : Result (Bor (List ℕ)) E)
    → MatchResult r P Q → ((e : E) → Q e → ¬ (IsUtf8 word)) → is_decimal word ≡ true → result_ok r ≡ None → ⊥
text_found P Q word (Ok s) h is d e = cc e
text_found P Q word (Err f) h is d e = is f h (utf8_of_decimal word d)

-- ---- a number, digit by digit

-- A number with this few digits has room for one more.
pub front_fits : (text : List ℕ) (i : ℕ) → i < 19 → list_all is_ascii_digit (take i text) ≡ true → digits_value 10 (take i text) < 10 ^ 18
front_fits text i few digits =
    digits_value_short own (take i text) 18 (digits_of_all (take i text) digits) (omega (arith, length-take i text))

digit_is : (c : ℕ) → is_ascii_digit c ≡ true → c - 48 ≡ digit_value c
digit_is c h =
    let parts = and_parts _ _ h in
    let low : 48 ≤ c = leb-true 48 c parts.0 in
    let high : c ≤ 57 = leb-true c 57 parts.1 in
    let same = digit_value_digit c (low, high) in
    omega (arith, same, low)

-- A byte is a digit if its difference from the digit 0, modulo 2 ^ 64, is at most 9.
pub digit_below : (c d : ℕ) → c < 256 → d ≡ (c + (2 ^ 64 - 48)) % 2 ^ 64 → d ≤ 9 → (is_ascii_digit c ≡ true) × (d ≡ c - 48)
digit_below c d octet is small =
    let low : 48 ≤ c = omega (arith, octet, is, small) in
    let high : c ≤ 57 = omega (arith, octet, is, small) in
    (and_from _ _ (le-leb 48 c low) (le-leb c 57 high), omega (arith, octet, is, small))

-- One more digit.
pub front_more : (text : List ℕ) (i n : ℕ) → i < length text → is_ascii_digit (get_or text i 0) ≡ true → list_all is_ascii_digit (take i text) ≡ true
    → n ≡ digits_value 10 (take i text)
    → (list_all is_ascii_digit (take (i + 1) text) ≡ true) × (10 * n + (get_or text i 0 - 48) ≡ digits_value 10 (take (i + 1) text))
front_more text i n within digit digits n_is =
    let more = digits_value_more 10 text i within in
    let value = digit_is (get_or text i 0) digit in (
      list_all_more is_ascii_digit text i 0 within ∙ and_from _ _ digits digit,
      omega (arith, more, value, n_is),
    )

-- A number that consists of digits, without a zero before others, followed by a space.
pub number_here : (text : List ℕ) (count n : ℕ) → count < length text → count ≤ 19 → 0 < count → get_or text count 0 ≡ 32
    → (get_or text 0 0 ≡ 48 → count ≡ 1) → list_all is_ascii_digit (take count text) ≡ true → n ≡ digits_value 10 (take count text)
    → Some (n, drop (count + 1) text) ≡ number_at text
unfolding number_at number_of
number_here text count n within few some space zero digits n_is =
    let word = take count text in
    let size : length word ≡ count = omega (arith, length-take count text) in
    let split : text ≡ word ++ 32 ∷ drop (count + 1) text =
    sym (take-append-drop count text) ∙ ap (λ l. word ++ l) (drop_more text count 0 within ∙ ap (λ o. o ∷ drop (count + 1) text) space) in
    let none : HasNone 32 word = spaceless word digits in
    let big : digits_value 10 word < 10 ^ 19 = digits_value_short own word 19 (digits_of_all word digits) (omega (arith, size)) in
    let small : nat_lt (digits_value 10 word) (2 ^ 64) ≡ true = lt-ltb _ _ (omega (arith, big)) in
    let first : get_or word 0 0 ≡ get_or text 0 0 = get_or-take count text 0 0 some in
    let leading : has_leading_zero word ≡ false = plain word (λ e. let one = zero (sym first ∙ e) in omega (arith, one, size)) in
    let whole : is_decimal word ≡ true = and_from _ _ digits (and_from _ _ (lt-ltb 0 (length word) (omega (arith, size, some))) (not_from_false _ leading)) in
    let found : word_at text ≡ Some (word, drop (count + 1) text) = ap word_at split ∙ word_at-found word (drop (count + 1) text) none in
    rw (found, whole, small, n_is) refl
