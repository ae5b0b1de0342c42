-- The digits of sixteen bytes at once.
use Rattle.std.proofs.Common.{◌≡◌, ℕ, ◌*◌, ◌<◌, ◌/◌, ◌%◌, zero, suc, true, eqb, List, [], ◌∷◌, ◌++◌, length, map, take, drop, get_or, refl, ap, ap₂, sym, subst, ◌∙◌, Fits, w8, arith}
use lib.Lanes.{Each1, pick_l}
use Rattle.std.proofs.lemmas.Bool.{agree_below, agree_below_at, eqb-true}
use Rattle.std.proofs.lemmas.List.{take-append-drop, take_at}
use Rattle.hex.specs.Hex.{encode_lower, encode_with, lower_digits}
use Rattle.hsms_log.proofs.Parts.{encode-append}

-- Elements by their indices.
listing : (ℕ → ℕ) → ℕ → List ℕ
listing f zero = []
listing f (suc n) = f 0 ∷ listing (λ k. f (suc k)) n

listed : (xs : List ℕ) (n : ℕ) → length xs ≡ n → xs ≡ listing (λ k. get_or xs k 0) n
unfolding listing
listed [] zero e = refl
listed [] (suc n) e = absurd (omega arith)
listed (x ∷ xs) zero e = absurd (omega arith)
listed (x ∷ xs) (suc n) e = ap (λ r. x ∷ r) (listed xs n (omega (arith, e)))

-- Alternating elements of two lists.
pub woven : List ℕ → List ℕ → List ℕ
woven [] lows = []
woven (high ∷ highs) [] = []
woven (high ∷ highs) (low ∷ lows) = high ∷ low ∷ woven highs lows

-- The indices at which lanes of two vectors alternate.
abbrev places : List ℕ
places =
    0 ∷ 16 ∷ 1 ∷ 17 ∷ 2 ∷ 18 ∷ 3 ∷ 19 ∷ 4 ∷ 20 ∷ 5 ∷ 21 ∷ 6 ∷ 22 ∷ 7 ∷ 23 ∷ 8 ∷ 24 ∷ 9 ∷ 25 ∷ 10 ∷ 26 ∷ 11 ∷ 27 ∷ 12 ∷ 28 ∷ 13 ∷ 29 ∷ 14 ∷ 30
    ∷ 15 ∷ 31 ∷ []

pub picked_by_turns : (highs lows : List ℕ) → length highs ≡ 16 → length lows ≡ 16 → pick_l 0 (highs ++ lows) places ≡ woven highs lows
unfolding woven listing
picked_by_turns highs lows long also =
    subst (λ hs. pick_l 0 (hs ++ lows) places ≡ woven hs lows) (sym (listed highs 16 long))
    (subst (λ ls. pick_l 0 (listing (λ k. get_or highs k 0) 16 ++ ls) places ≡ woven (listing (λ k. get_or highs k 0) 16) ls) (sym (listed lows 16 also)) refl)

-- The values of bytes are their digits, if the value of each possible byte is.
pub digits_woven : (high low : ℕ → ℕ) → agree_below (λ x. eqb (high x) (get_or lower_digits (x / 16) 0)) (λ _. true) 256 ≡ true
    → agree_below (λ x. eqb (low x) (get_or lower_digits (x % 16) 0)) (λ _. true) 256 ≡ true → (octets : List ℕ)
    → ((k : ℕ) → get_or octets k 0 < 256) → woven (map high octets) (map low octets) ≡ encode_lower octets
unfolding encode_with woven
digits_woven high low highs lows [] fits = refl
digits_woven high low highs lows (x ∷ xs) fits =
    let first = eqb-true _ _ (agree_below_at (λ x. eqb (high x) (get_or lower_digits (x / 16) 0)) (λ _. true) 256 x highs (fits 0)) in
    let second = eqb-true _ _ (agree_below_at (λ x. eqb (low x) (get_or lower_digits (x % 16) 0)) (λ _. true) 256 x lows (fits 0)) in
    ap (λ d. d ∷ low x ∷ woven (map high xs) (map low xs)) first ∙ ap (λ d. get_or lower_digits (x / 16) 0 ∷ d ∷ woven (map high xs) (map low xs)) second
    ∙ ap (λ r. get_or lower_digits (x / 16) 0 ∷ get_or lower_digits (x % 16) 0 ∷ r) (digits_woven high low highs lows xs (λ k. fits (suc k)))

-- Two functions have the same values on bytes, if they agree on each possible byte.
pub map_agrees : (f g : ℕ → ℕ) (xs ys : List ℕ) → ys ≡ map f xs → agree_below (λ x. eqb (f x) (g x)) (λ _. true) 256 ≡ true
    → Each1 (Fits w8) xs → ys ≡ map g xs
map_agrees f g xs ys is same fits = is ∙ go xs fits
  where
    go : (xs : List ℕ) → Each1 (Fits w8) xs → map f xs ≡ map g xs
    go [] fits = refl
    go (x ∷ xs) fits =
        ap₂ (λ y ys. y ∷ ys) (eqb-true _ _ (agree_below_at (λ x. eqb (f x) (g x)) (λ _. true) 256 x same fits.0.fits)) (go xs fits.1)

-- ---- fewer than sixteen

pub length-encode : (octets : List ℕ) → length (encode_lower octets) ≡ 2 * length octets
unfolding encode_with
length-encode [] = refl
length-encode (x ∷ octets) = let rest = length-encode octets in omega (arith, rest)

-- The digits of the first bytes.
pub first_digits : (octets whole : List ℕ) → take (length octets) whole ≡ octets → take (2 * length octets) (encode_lower whole) ≡ encode_lower octets
first_digits octets whole front =
    let split : encode_lower whole ≡ encode_lower octets ++ encode_lower (drop (length octets) whole) =
    ap encode_lower (sym (take-append-drop (length octets) whole) ∙ ap (λ o. o ++ drop (length octets) whole) front) ∙ encode-append octets (drop (length octets) whole) in
    ap (take (2 * length octets)) split ∙ take_at (encode_lower octets) (encode_lower (drop (length octets) whole)) (2 * length octets) (length-encode octets)
