-- The bytes of one class at the start.
use Rattle.std.proofs.Common.{◌≡◌, ℕ, zero, suc, ◌+◌, ◌<◌, ◌≤◌, Bool, true, false, ◌&&◌, List, [], ◌∷◌, length, take, get_or, refl, sym, ap, ◌∙◌, arith}
use Rattle.std.specs.List.{list_all, prefix_len}
use Rattle.std.proofs.lemmas.List.{take_all}
use Rattle.std.proofs.lemmas.List.Folds.{list_all_more}

pub both : (a b : Bool) → a && b ≡ true → (a ≡ true) × (b ≡ true)
both true true e = (refl, refl)
both true false e = cc
both false b e = cc

pub prefix_continues : (p : ℕ → Bool) (w : List ℕ) (i : ℕ) → list_all p (take i w) ≡ true → p (get_or w i 0) ≡ true → i < length w → list_all p (take (i + 1) w) ≡ true
prefix_continues p w i all passes lt = list_all_more p w i 0 lt ∙ rw (all, passes) refl

-- A byte is not of the class.
pub front_ends : (p : ℕ → Bool) (w : List ℕ) (i : ℕ) → list_all p (take i w) ≡ true → i < length w → p (get_or w i 0) ≡ false → i ≡ prefix_len p w
front_ends p [] i all lt other = absurd (omega arith)
front_ends p (c ∷ w) zero all lt other = rw other refl
front_ends p (c ∷ w) (suc i) all lt other =
    let parts = both (p c) _ all in
    let rest = front_ends p w i parts.1 (omega arith) other in
    rw parts.0 (omega (arith, rest))

whole : (p : ℕ → Bool) (w : List ℕ) → list_all p w ≡ true → length w ≡ prefix_len p w
whole p [] all = refl
whole p (c ∷ w) all =
    let parts = both (p c) _ all in
    let rest = whole p w parts.1 in
    rw parts.0 (omega (arith, rest))

-- All bytes are of the class.
pub front_is_whole : (p : ℕ → Bool) (w : List ℕ) (i : ℕ) → list_all p (take i w) ≡ true → length w ≤ i → length w ≡ prefix_len p w
front_is_whole p w i all le = whole p w (ap (λ o. list_all p o) (sym (take_all i w le)) ∙ all)

-- The first byte is of the class, and the second one is not.
pub front_of_one : (p : ℕ → Bool) (w : List ℕ) → 2 ≤ length w → p (get_or w 0 0) ≡ true → p (get_or w 1 0) ≡ false → 1 ≡ prefix_len p w
front_of_one p [] le first second = absurd (omega arith)
front_of_one p (a ∷ []) le first second = absurd (omega arith)
front_of_one p (a ∷ b ∷ w) le first second = rw (first, second) refl
