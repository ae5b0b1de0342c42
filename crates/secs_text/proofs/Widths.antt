-- Numbers of one, two, four and eight bytes.
use Rattle.std.proofs.Common.{◌≡◌, ℕ, ◌+◌, ◌-◌, ◌*◌, ◌/◌, ◌%◌, ◌^◌, ◌<◌, ◌≤◌, Bool, true, false, List, [], ◌∷◌, ◌++◌, length, drop, refl, sym, ap, ◌∙◌, subst, arith, append-nil, of_z, to_z}
use Rattle.std.specs.Prelude.{◌==◌, ◌||◌, ℤ, pos, negsuc, Option, Some, None, option_map}
use Rattle.std.specs.Int.Signed.{mag}
use Rattle.std.proofs.Math.Seq.{drop-length}
use Rattle.std.proofs.lemmas.Int.{to_z-of_z}
use Rattle.std.specs.Int.{w64, cast_unsigned, byte_len}
use Rattle.std.proofs.lemmas.Bool.{eqb-true}
use Rattle.byteorder.specs.Endian.{big_bytes, big_number, low_bytes}
use Rattle.secs_item.specs.ShortestEncoding.{octets_of_signed}
use Rattle.secs_text.specs.InnerWidths.{is_width, width_of, unsigned, octets_of_unsigned}
use Rattle.secs_text.specs.Words.{signed_below}

module _ (P : ℕ → Type 0) (one : P 1) (two : P 2) (four : P 4) (eight : P 8) where
  by_tests : (n : ℕ) (a b c d : Bool) → (n == 1) ≡ a → (n == 2) ≡ b → (n == 4) ≡ c → (n == 8) ≡ d → a || b || c || d ≡ true → P n
  by_tests n true b c d e f g h is = subst P (sym (eqb-true n 1 e)) one
  by_tests n false true c d e f g h is = subst P (sym (eqb-true n 2 f)) two
  by_tests n false false true d e f g h is = subst P (sym (eqb-true n 4 g)) four
  by_tests n false false false true e f g h is = subst P (sym (eqb-true n 8 h)) eight
  by_tests n false false false false e f g h is = cc

  -- A property that holds for each width holds for `n`.
  pub by_width : (n : ℕ) → is_width n ≡ true → P n
  by_width n is = by_tests n (n == 1) (n == 2) (n == 4) (n == 8) refl refl refl refl is

pub width_some : (n : ℕ) → is_width n ≡ true → 1 ≤ n
width_some n is = by_width (λ k. 1 ≤ k) (omega arith) (omega arith) (omega arith) (omega arith) n is

pub width_most : (n : ℕ) → is_width n ≡ true → n ≤ 8
width_most n is = by_width (λ k. k ≤ 8) (omega arith) (omega arith) (omega arith) (omega arith) n is

-- A chunk of 512 bytes consists of complete values.
pub width_chunk : (n : ℕ) → is_width n ≡ true → (k : ℕ) × (512 ≡ k * n)
width_chunk n is = by_width (λ m. (k : ℕ) × (512 ≡ k * m)) (512, refl) (256, refl) (128, refl) (64, refl) n is

-- The maximum numbers.
pub most_unsigned : (n : ℕ) → is_width n ≡ true → 18446744073709551615 / 2 ^ (64 - 8 * n) + 1 ≡ 2 ^ (8 * n)
most_unsigned n is = by_width (λ m. 18446744073709551615 / 2 ^ (64 - 8 * m) + 1 ≡ 2 ^ (8 * m)) refl refl refl refl n is

pub most_signed : (n : ℕ) → is_width n ≡ true → 18446744073709551615 / 2 ^ (65 - 8 * n) + 1 ≡ 2 ^ (8 * n - 1)
most_signed n is = by_width (λ m. 18446744073709551615 / 2 ^ (65 - 8 * m) + 1 ≡ 2 ^ (8 * m - 1)) refl refl refl refl n is

pub width_range : (n : ℕ) → is_width n ≡ true → 2 ^ (8 * n) ≡ 256 ^ n
width_range n is = by_width (λ m. 2 ^ (8 * m) ≡ 256 ^ m) refl refl refl refl n is

-- ---- numbers that are not negative

pub unsigned_is : (n : ℕ) (o : List ℕ) → is_width n ≡ true → big_number n o ≡ unsigned n o
unsigned_is n o is = by_width (λ m. big_number m o ≡ unsigned m o) (omega arith) refl refl refl n is

pub octets_is : (n x : ℕ) → is_width n ≡ true → x < 256 ^ n → big_bytes n x ≡ octets_of_unsigned n x
octets_is n x is lt = by_width (λ m. x < 256 ^ m → big_bytes m x ≡ octets_of_unsigned m x) (λ small. ap (λ k. k ∷ []) (omega (arith, small))) (λ small. refl) (λ small. refl) (λ small. refl) n is lt

-- ---- signed numbers

half_most : (n : ℕ) → is_width n ≡ true → 2 ^ (8 * n - 1) ≤ 9223372036854775808
half_most n is = by_width (λ m. 2 ^ (8 * m - 1) ≤ 9223372036854775808) (omega arith) (omega arith) (omega arith) (omega arith) n is

low_is : (n : ℕ) (z : ℤ) → is_width n ≡ true → mag z < 2 ^ (8 * n - 1) → low_bytes w64 n z ≡ cast_unsigned (width_of n) z
low_is n (pos x) is small = by_width (λ m. x < 2 ^ (8 * m - 1) → x % 2 ^ (8 * m) ≡ cast_unsigned (width_of m) (pos x)) (λ lt. omega (arith, lt)) (λ lt. omega (arith, lt)) (λ lt. omega (arith, lt)) (λ lt. omega (arith, lt)) n is small
low_is n (negsuc x) is small = by_width (λ m. x < 2 ^ (8 * m - 1) → low_bytes w64 m (negsuc x) ≡ cast_unsigned (width_of m) (negsuc x)) (λ lt. omega (arith, lt)) (λ lt. omega (arith, lt)) (λ lt. omega (arith, lt)) (λ lt. omega (arith, lt)) n is small

length_is : (n : ℕ) → is_width n ≡ true → (x : ℕ) → big_bytes n x ≡ big_bytes (byte_len (width_of n)) x
length_is n is x = by_width (λ m. big_bytes m x ≡ big_bytes (byte_len (width_of m)) x) refl refl refl refl n is

signed_octets : (n : ℕ) (z : ℤ) → is_width n ≡ true → mag z < 2 ^ (8 * n - 1) → big_bytes n (low_bytes w64 n z) ≡ octets_of_signed (width_of n) z
signed_octets n z is small = ap (big_bytes n) (low_is n z is small) ∙ length_is n is (cast_unsigned (width_of n) z)

module _ (n most : ℕ) (w : List ℕ) (greatest : most + 1 ≡ 2 ^ (8 * n - 1)) where
  -- The bytes of a number that a word represents.
  pub signed_encoded : (z : ℤ) (zeros octets : List ℕ) → is_width n ≡ true → Some z ≡ signed_below (most + 1) w → mag z ≤ most → length zeros ≡ n → octets ≡ big_bytes n (low_bytes w64 n (to_z w64 (of_z w64 z))) ++ drop n zeros
      → Some octets ≡ option_map (octets_of_signed (width_of n)) (signed_below (2 ^ (8 * n - 1)) w)
  signed_encoded z zeros octets is encoded_bytes within long appended_text =
      let small : mag z < 2 ^ (8 * n - 1) = omega (arith, within, greatest) in
      let fits : mag z < 9223372036854775808 = (let most_of_all = half_most n is in omega (arith, small, most_of_all)) in
      let none : drop n zeros ≡ [] = ap (λ k. drop k zeros) (sym long) ∙ drop-length zeros in
      let octets_are : octets ≡ octets_of_signed (width_of n) z =
      appended_text ∙ ap (λ k. big_bytes n (low_bytes w64 n k) ++ drop n zeros) (to_z-of_z w64 z (record { sfits = fits })) ∙ ap (λ o. big_bytes n (low_bytes w64 n z) ++ o) none ∙ append-nil (big_bytes n (low_bytes w64 n z)) ∙ signed_octets n z is small in
      ap (λ o. Some o) octets_are ∙ ap (option_map (octets_of_signed (width_of n))) (encoded_bytes ∙ ap (λ half. signed_below half w) greatest)

  pub signed_refused : None ≡ signed_below (most + 1) w → ◌≡◌ {A = Option (List ℕ)} None (option_map (octets_of_signed (width_of n)) (signed_below (2 ^ (8 * n - 1)) w))
  signed_refused refused = ap (option_map (octets_of_signed (width_of n))) (refused ∙ ap (λ half. signed_below half w) greatest)
