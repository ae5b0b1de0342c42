-- The table of hexadecimal digits.
use Rattle.std.proofs.Common.{◌≡◌, ℕ, ◌+◌, ◌*◌, ◌<◌, ◌≤◌, Bool, true, get_or, refl, ap, arith, Fits, w16}
use Rattle.std.specs.Prelude.{Option, Some, None, nat_lt, nat_eq}
use Rattle.std.proofs.lemmas.Bool.{agree_below_at, eqb-true, ltb-true}
use Rattle.secs_text.specs.Words.{hex_digit, octet_from}
use Rattle.secs_text.specs.declared.word.TheConstants.{HEX_DIGITS}

abbrev digit_or : Option ℕ → ℕ
digit_or (Some d) = d
digit_or None = 256

abbrev is_small : Option ℕ → Bool
is_small (Some d) = nat_lt d 16
is_small None = true

digits_right : (c : ℕ) → c < 256 → get_or HEX_DIGITS c 0 ≡ digit_or (hex_digit c)
digits_right c lt = eqb-true _ _ (agree_below_at (λ k. nat_eq (get_or HEX_DIGITS k 0) (digit_or (hex_digit k))) (λ k. true) 256 c refl lt)

digits_small : (c : ℕ) → c < 256 → is_small (hex_digit c) ≡ true
digits_small c lt = agree_below_at (λ k. is_small (hex_digit k)) (λ k. true) 256 c refl lt

digits_most : (c : ℕ) → c < 256 → get_or HEX_DIGITS c 0 < 257
digits_most c lt = ltb-true _ _ (agree_below_at (λ k. nat_lt (get_or HEX_DIGITS k 0) 257) (λ k. true) 256 c refl lt)

pub product_fits : (a : ℕ) → a < 256 → Fits w16 (16 * get_or HEX_DIGITS a 0)
product_fits a la = let m = digits_most a la in omega (arith, m)

pub sum_fits : (a b : ℕ) → a < 256 → b < 256 → Fits w16 (16 * get_or HEX_DIGITS a 0 + get_or HEX_DIGITS b 0)
sum_fits a b la lb =
    let m = digits_most a la in
    let n = digits_most b lb in
    omega (arith, m, n)

pair : (x y : Option ℕ) (high low : ℕ) → is_small x ≡ true → is_small y ≡ true → high ≡ digit_or x → low ≡ digit_or y → 16 * high + low ≤ 255 → Some (16 * high + low) ≡ octet_from x y
pair (Some d) (Some e) high low sx sy h l le = ap (λ n. Some n) (omega arith)
pair (Some d) None high low sx sy h l le = absurd (omega arith)
pair None y high low sx sy h l le = absurd (omega arith)

no_pair : (x y : Option ℕ) (high low : ℕ) → is_small x ≡ true → is_small y ≡ true → high ≡ digit_or x → low ≡ digit_or y → 255 < 16 * high + low → None ≡ octet_from x y
no_pair (Some d) (Some e) high low sx sy h l lt =
    let a = ltb-true d 16 sx in
    let b = ltb-true e 16 sy in
    absurd (omega arith)
no_pair (Some d) None high low sx sy h l lt = refl
no_pair None y high low sx sy h l lt = refl

pub octet_right : (a b : ℕ) → a < 256 → b < 256 → 16 * get_or HEX_DIGITS a 0 + get_or HEX_DIGITS b 0 ≤ 255 → Some (16 * get_or HEX_DIGITS a 0 + get_or HEX_DIGITS b 0) ≡ octet_from (hex_digit a) (hex_digit b)
octet_right a b la lb le = pair _ _ _ _ (digits_small a la) (digits_small b lb) (digits_right a la) (digits_right b lb) le

pub no_octet : (a b : ℕ) → a < 256 → b < 256 → 255 < 16 * get_or HEX_DIGITS a 0 + get_or HEX_DIGITS b 0 → None ≡ octet_from (hex_digit a) (hex_digit b)
no_octet a b la lb lt = no_pair _ _ _ _ (digits_small a la) (digits_small b lb) (digits_right a la) (digits_right b lb) lt
