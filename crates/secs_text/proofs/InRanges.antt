-- The values that words represent are in the range of their types.
use Rattle.std.proofs.Common.{◌≡◌, ℕ, ◌+◌, ◌-◌, ◌*◌, ◌<◌, ◌^◌, Bool, true, false, List, [], ◌∷◌, ◌++◌, length, refl, sym, ap, ◌∙◌, arith, subst, if◌then◌else◌}
use Rattle.std.specs.Prelude.{Option, Some, None, option_map, option_and_then, nat_lt, nat_le, ◌==◌, ◌&&◌, ℤ, pos, negsuc, FitsSigned}
use Rattle.std.specs.List.{AllByRecursion}
use Rattle.std.specs.Int.{w8, w16, w32, w64}
use Rattle.std.specs.Str.Parse.{digits_value}
use Rattle.std.proofs.lemmas.Bool.{ltb-true}
use Rattle.std.proofs.lemmas.Bool.Decides.{nat_tests}
use Rattle.secs_item.specs.Item.{Values, binary, boolean, ascii, jis8, char2, i1, i2, i4, i8, u1, u2, u4, u8, f4, f8, ValuesInRange}
use Rattle.secs_text.specs.Octets.{is_digit}
use Rattle.secs_text.specs.ParserStates.{with_word, with_quoted}
use Rattle.secs_text.specs.Words.{is_numeral, number_below, negative_of, signed_below, hex_digit, octet_from, octet_of_digits, octet_then, hex_octets, octets_of, only, octet_of, sized, float_of, truth_of}

-- ---- numbers

below_some : (b : Bool) (limit x n : ℕ) → b ≡ nat_lt x limit → (if b then Some x else None) ≡ Some n → n < limit
below_some true limit x n is e =
    let same : x ≡ n = cc in
    let lt : x < limit = ltb-true x limit (sym is) in
    omega (arith, same, lt)
below_some false limit x n is e = cc

numeral_some : (a : Bool) (limit x n : ℕ) → (if a && nat_lt x limit then Some x else None) ≡ Some n → n < limit
numeral_some true limit x n e = below_some (nat_lt x limit) limit x n refl e
numeral_some false limit x n e = cc

pub number_fits : (limit : ℕ) (w : List ℕ) (n : ℕ) → number_below limit w ≡ Some n → n < limit
unfolding number_below
number_fits limit w n e = numeral_some (is_numeral w) limit (digits_value 10 w) n e

-- Holds if the signed number is at least `-half` and below `half`.
abbrev pub IsAround : ℕ → ℤ → Type 0
IsAround half (pos n) = n < half
IsAround half (negsuc n) = n < half

negative_some : (b : Bool) (half n : ℕ) (z : ℤ) → n < half + 1 → b ≡ (n == 0) → (if b then None else Some (negsuc (n - 1))) ≡ Some z → IsAround half z
negative_some true half n (pos k) lt is e = cc
negative_some true half n (negsuc k) lt is e = cc
negative_some false half n (pos k) lt is e = cc
negative_some false half n (negsuc k) lt is e =
    let same : n - 1 ≡ k = cc in
    let some : 0 < n = grind (arith, nat_tests) in
    omega (arith, same, lt, some)

negated : (r : Option ℕ) (half : ℕ) (z : ℤ) → ((n : ℕ) → r ≡ Some n → n < half + 1) → option_and_then negative_of r ≡ Some z → IsAround half z
negated None half z fits e = cc
negated (Some n) half z fits e = negative_some (n == 0) half n z (fits n refl) refl e

plain : (r : Option ℕ) (half : ℕ) (z : ℤ) → ((n : ℕ) → r ≡ Some n → n < half) → option_map pos r ≡ Some z → IsAround half z
plain None half z fits e = cc
plain (Some n) half (pos k) fits e = let same : n ≡ k = cc in let lt = fits n refl in omega (arith, same, lt)
plain (Some n) half (negsuc k) fits e = cc

signed_some : (b : Bool) (half c : ℕ) (cs : List ℕ) (z : ℤ) → (if b then option_and_then negative_of (number_below (half + 1) cs) else option_map pos (number_below half (c ∷ cs))) ≡ Some z → IsAround half z
signed_some true half c cs z e = negated (number_below (half + 1) cs) half z (λ n is. number_fits (half + 1) cs n is) e
signed_some false half c cs z e = plain (number_below half (c ∷ cs)) half z (λ n is. number_fits half (c ∷ cs) n is) e

pub signed_fits : (half : ℕ) (w : List ℕ) (z : ℤ) → signed_below half w ≡ Some z → IsAround half z
unfolding signed_below
signed_fits half [] z e = cc
signed_fits half (c ∷ cs) z e = signed_some (c == 0x2D) half c cs z e

fits_w8 : (z : ℤ) → IsAround (2 ^ 7) z → FitsSigned w8 z
fits_w8 (pos n) lt = grind (arith, lt)
fits_w8 (negsuc n) lt = grind (arith, lt)

fits_w16 : (z : ℤ) → IsAround (2 ^ 15) z → FitsSigned w16 z
fits_w16 (pos n) lt = grind (arith, lt)
fits_w16 (negsuc n) lt = grind (arith, lt)

fits_w32 : (z : ℤ) → IsAround (2 ^ 31) z → FitsSigned w32 z
fits_w32 (pos n) lt = grind (arith, lt)
fits_w32 (negsuc n) lt = grind (arith, lt)

fits_w64 : (z : ℤ) → IsAround (2 ^ 63) z → FitsSigned w64 z
fits_w64 (pos n) lt = grind (arith, lt)
fits_w64 (negsuc n) lt = grind (arith, lt)

-- ---- bytes

digit_last : (b : Bool) (c d : ℕ) → b ≡ (nat_le 0x61 c && nat_le c 0x66) → (if b then Some (c - 0x57) else None) ≡ Some d → d < 16
digit_last true c d is e = let same : c - 0x57 ≡ d = cc in grind (arith, nat_tests)
digit_last false c d is e = cc

digit_next : (b : Bool) (c d : ℕ) → b ≡ (nat_le 0x41 c && nat_le c 0x46) → (if b then Some (c - 0x37) else (if nat_le 0x61 c && nat_le c 0x66 then Some (c - 0x57) else None)) ≡ Some d → d < 16
digit_next true c d is e = let same : c - 0x37 ≡ d = cc in grind (arith, nat_tests)
digit_next false c d is e = digit_last (nat_le 0x61 c && nat_le c 0x66) c d refl e

digit_first : (b : Bool) (c d : ℕ) → b ≡ is_digit c → (if b then Some (c - 0x30) else (if nat_le 0x41 c && nat_le c 0x46 then Some (c - 0x37) else (if nat_le 0x61 c && nat_le c 0x66 then Some (c - 0x57) else None))) ≡ Some d → d < 16
digit_first true c d is e = let same : c - 0x30 ≡ d = cc in grind (arith, nat_tests)
digit_first false c d is e = digit_next (nat_le 0x41 c && nat_le c 0x46) c d refl e

pub digit_fits : (c d : ℕ) → hex_digit c ≡ Some d → d < 16
digit_fits c d e = digit_first (is_digit c) c d refl e

pair_fits : (x y : Option ℕ) (o : ℕ) → ((d : ℕ) → x ≡ Some d → d < 16) → ((d : ℕ) → y ≡ Some d → d < 16) → octet_from x y ≡ Some o → o < 256
pair_fits (Some a) (Some b) o fa fb e =
    let same : 16 * a + b ≡ o = cc in
    let la = fa a refl in
    let lb = fb b refl in
    omega (arith, same, la, lb)
pair_fits (Some a) None o fa fb e = cc
pair_fits None y o fa fb e = cc

then_fit : (x : Option ℕ) (r : Option (List ℕ)) (os : List ℕ) → ((o : ℕ) → x ≡ Some o → o < 256) → ((ps : List ℕ) → r ≡ Some ps → AllByRecursion (λ n. n < 256) ps) → octet_then x r ≡ Some os → AllByRecursion (λ n. n < 256) os
then_fit (Some o) (Some ps) [] fo fp e = tt
then_fit (Some o) (Some ps) (q ∷ qs) fo fp e =
    let first : o ≡ q = cc in
    let others : ps ≡ qs = cc in
    (let lt = fo o refl in omega (arith, lt, first), fp qs (ap (λ l. Some l) others))
then_fit (Some o) None os fo fp e = cc
then_fit None r os fo fp e = cc

hex_fit : (digits os : List ℕ) → hex_octets digits ≡ Some os → AllByRecursion (λ n. n < 256) os
hex_fit [] [] e = tt
hex_fit [] (q ∷ qs) e = cc
hex_fit (high ∷ []) os e = cc
hex_fit (high ∷ low ∷ digits) os e =
    then_fit (octet_of_digits high low) (hex_octets digits) os (λ o is. pair_fits (hex_digit high) (hex_digit low) o (digit_fits high) (digit_fits low) is) (λ ps is. hex_fit digits ps is) e

begun_fit : (b : Bool) (digits os : List ℕ) → (if b then hex_octets digits else None) ≡ Some os → AllByRecursion (λ n. n < 256) os
begun_fit true digits os e = hex_fit digits os e
begun_fit false digits os e = cc

pub octets_fit : (w os : List ℕ) → octets_of w ≡ Some os → AllByRecursion (λ n. n < 256) os
unfolding octets_of
octets_fit [] os e = cc
octets_fit (o ∷ []) os e = cc
octets_fit (o ∷ x ∷ digits) os e = begun_fit ((o == 0x30) && (x == 0x78)) digits os e

only_fits : (r : Option (List ℕ)) (o : ℕ) → ((os : List ℕ) → r ≡ Some os → AllByRecursion (λ n. n < 256) os) → option_and_then only r ≡ Some o → o < 256
only_fits None o fits e = cc
only_fits (Some []) o fits e = cc
only_fits (Some (a ∷ [])) o fits e = let same : a ≡ o = cc in let lt = (fits (a ∷ []) refl).0 in omega (arith, same, lt)
only_fits (Some (a ∷ b ∷ os)) o fits e = cc

pub octet_fits : (w : List ℕ) (o : ℕ) → octet_of w ≡ Some o → o < 256
unfolding octet_of
octet_fits w o e = only_fits (octets_of w) o (octets_fit w) e

sized_is : (b : Bool) (size : ℕ) (os float : List ℕ) → b ≡ (length os == size) → (if b then Some os else None) ≡ Some float → (os ≡ float) × (length os ≡ size)
sized_is true size os float is e = (cc, grind (arith, nat_tests))
sized_is false size os float is e = cc

sized_fits : (r : Option (List ℕ)) (size : ℕ) (float : List ℕ) → ((os : List ℕ) → r ≡ Some os → AllByRecursion (λ n. n < 256) os) → option_and_then (sized size) r ≡ Some float
    → (length float ≡ size) × AllByRecursion (λ n. n < 256) float
sized_fits None size float fits e = cc
sized_fits (Some os) size float fits e =
    let p = sized_is (length os == size) size os float refl e in
    (ap length (sym p.0) ∙ p.1, fits float (ap (λ l. Some l) p.0))

pub float_fits : (size : ℕ) (w float : List ℕ) → float_of size w ≡ Some float → (length float ≡ size) × AllByRecursion (λ n. n < 256) float
unfolding float_of
float_fits size w float e = sized_fits (octets_of w) size float (octets_fit w) e

-- ---- one more value that is in range

all_push : {X : Type 0} (P : X → Type 0) (xs ys : List X) → AllByRecursion P xs → AllByRecursion P ys → AllByRecursion P (xs ++ ys)
all_push P [] ys h k = k
all_push P (x ∷ xs) ys h k = (h.0, all_push P xs ys h.1 k)

-- A value is appended.
pushed : {X : Type 0} (P : X → Type 0) (make : List X → Values) (r : Option X) (xs : List X) (more : Values) → ((ys : List X) → AllByRecursion P ys → ValuesInRange (make ys)) → ((x : X) → r ≡ Some x → P x)
    → AllByRecursion P xs → option_map (λ x. make (xs ++ x ∷ [])) r ≡ Some more → ValuesInRange more
pushed P make None xs more whole fits h e = cc
pushed P make (Some x) xs more whole fits h e =
    let same : make (xs ++ x ∷ []) ≡ more = cc in
    subst ValuesInRange same (whole (xs ++ x ∷ []) (all_push P xs (x ∷ []) h (fits x refl, tt)))

pub word_in_range : (v more : Values) (w : List ℕ) → ValuesInRange v → with_word v w ≡ Some more → ValuesInRange more
word_in_range (binary xs) more w h e = pushed (λ n. n < 256) binary (octet_of w) xs more (λ ys k. k) (octet_fits w) h e
word_in_range (boolean xs) more w h e = pushed (λ b. Unit {0}) boolean (truth_of w) xs more (λ ys k. k) (λ b is. tt) h e
word_in_range (ascii xs) more w h e = pushed (λ n. n < 256) ascii (octet_of w) xs more (λ ys k. k) (octet_fits w) h e
word_in_range (jis8 xs) more w h e = pushed (λ n. n < 256) jis8 (octet_of w) xs more (λ ys k. k) (octet_fits w) h e
word_in_range (char2 xs) more w h e = pushed (λ n. n < 256) char2 (octet_of w) xs more (λ ys k. k) (octet_fits w) h e
word_in_range (i1 xs) more w h e = pushed (FitsSigned w8) i1 (signed_below (2 ^ 7) w) xs more (λ ys k. k) (λ z is. fits_w8 z (signed_fits (2 ^ 7) w z is)) h e
word_in_range (i2 xs) more w h e = pushed (FitsSigned w16) i2 (signed_below (2 ^ 15) w) xs more (λ ys k. k) (λ z is. fits_w16 z (signed_fits (2 ^ 15) w z is)) h e
word_in_range (i4 xs) more w h e = pushed (FitsSigned w32) i4 (signed_below (2 ^ 31) w) xs more (λ ys k. k) (λ z is. fits_w32 z (signed_fits (2 ^ 31) w z is)) h e
word_in_range (i8 xs) more w h e = pushed (FitsSigned w64) i8 (signed_below (2 ^ 63) w) xs more (λ ys k. k) (λ z is. fits_w64 z (signed_fits (2 ^ 63) w z is)) h e
word_in_range (u1 xs) more w h e = pushed (λ n. n < 256) u1 (number_below (2 ^ 8) w) xs more (λ ys k. k) (λ n is. let lt = number_fits (2 ^ 8) w n is in omega (arith, lt)) h e
word_in_range (u2 xs) more w h e = pushed (λ n. n < 256 ^ 2) u2 (number_below (2 ^ 16) w) xs more (λ ys k. k) (λ n is. let lt = number_fits (2 ^ 16) w n is in omega (arith, lt)) h e
word_in_range (u4 xs) more w h e = pushed (λ n. n < 256 ^ 4) u4 (number_below (2 ^ 32) w) xs more (λ ys k. k) (λ n is. let lt = number_fits (2 ^ 32) w n is in omega (arith, lt)) h e
word_in_range (u8 xs) more w h e = pushed (λ n. n < 256 ^ 8) u8 (number_below (2 ^ 64) w) xs more (λ ys k. k) (λ n is. let lt = number_fits (2 ^ 64) w n is in omega (arith, lt)) h e
word_in_range (f4 xs) more w h e = pushed _ f4 (float_of 4 w) xs more (λ ys k. k) (float_fits 4 w) h e
word_in_range (f8 xs) more w h e = pushed _ f8 (float_of 8 w) xs more (λ ys k. k) (float_fits 8 w) h e

-- The bytes of a quoted text are in range.
pub quoted_in_range : (v more : Values) (text : List ℕ) → AllByRecursion (λ n. n < 256) text → ValuesInRange v → with_quoted v text ≡ Some more → ValuesInRange more
quoted_in_range (ascii xs) more text octets h e =
    let same : ascii (xs ++ text) ≡ more = cc in
    subst ValuesInRange same (all_push (λ n. n < 256) xs text h octets)
quoted_in_range (binary xs) more text octets h e = cc
quoted_in_range (boolean xs) more text octets h e = cc
quoted_in_range (jis8 xs) more text octets h e = cc
quoted_in_range (char2 xs) more text octets h e = cc
quoted_in_range (i1 xs) more text octets h e = cc
quoted_in_range (i2 xs) more text octets h e = cc
quoted_in_range (i4 xs) more text octets h e = cc
quoted_in_range (i8 xs) more text octets h e = cc
quoted_in_range (u1 xs) more text octets h e = cc
quoted_in_range (u2 xs) more text octets h e = cc
quoted_in_range (u4 xs) more text octets h e = cc
quoted_in_range (u8 xs) more text octets h e = cc
quoted_in_range (f4 xs) more text octets h e = cc
quoted_in_range (f8 xs) more text octets h e = cc
