-- The first free number.
use Rattle.std.proofs.Common.{◌≡◌, ℕ, zero, suc, ◌<◌, ◌≤◌, nat_lt, Bool, true, false, refl, sym, ap, ◌∙◌, inl, inr, ◌⊎◌, arith}
use Rattle.std.proofs.lemmas.Bool.Decides.{nat_tests}
use Rattle.hsms_machine.specs.declared.view.View.{View}
use Rattle.hsms_machine.specs.View.{in_use_of, own_open_of}
use Rattle.hsms_endpoint.specs.SystemBytes.{number_on, IsFree, IsFirstFree}
use Rattle.hsms_endpoint.proofs.FullEndpoint.{crowded}

-- ---- comparing positions

lt_yes : (a b : ℕ) → nat_lt a b ≡ true → a < b
lt_yes a b e = grind (arith, nat_tests)

lt_no : (a b : ℕ) → nat_lt a b ≡ false → b ≤ a
lt_no a b e = grind (arith, nat_tests)

below_or_same : (a b : ℕ) → a ≤ b → (a < b) ⊎ (a ≡ b)
below_or_same a b le = decided (nat_lt a b) refl
  where
    decided : (less : Bool) → nat_lt a b ≡ less → (a < b) ⊎ (a ≡ b)
    decided true e = inl (lt_yes a b e)
    decided false e = inr (let no : b ≤ a = lt_no a b e in omega arith)

apart_or_same : (a b : ℕ) → ((a < b) ⊎ (b < a)) ⊎ (a ≡ b)
apart_or_same a b = decided (nat_lt a b) (nat_lt b a) refl refl
  where
    decided : (less more : Bool) → nat_lt a b ≡ less → nat_lt b a ≡ more → ((a < b) ⊎ (b < a)) ⊎ (a ≡ b)
    decided true more e f = inl (inl (lt_yes a b e))
    decided false true e f = inl (inr (lt_yes b a f))
    decided false false e f = inr (let no : b ≤ a = lt_no a b e in let nor : a ≤ b = lt_no b a f in omega arith)

-- ---- the free positions

-- One of the first n positions is free, or none is.
abbrev Looks : View → ℕ → ℕ → Type 0
Looks view next n = ((places : ℕ) × (places < n) × IsFree view (number_on next places)) ⊎ ((k : ℕ) → k < n → ¬ IsFree view (number_on next k))

last_taken : (view : View) (next n : ℕ) → in_use_of view (number_on next n) ≡ true → ((k : ℕ) → k < n → ¬ IsFree view (number_on next k)) → (k : ℕ) → k < suc n → ¬ IsFree view (number_on next k)
last_taken view next n used before k lt = elim (below_or_same k n (omega arith)) [
  | inl less ↦ before k less
  | inr same ↦ λ free. let d : true ≡ false = sym used ∙ ap (λ i. in_use_of view (number_on next i)) (sym same) ∙ free in cc
]

look_on : (view : View) (next n : ℕ) (used : Bool) → in_use_of view (number_on next n) ≡ used → Looks view next n → Looks view next (suc n)
look_on view next n false e h = inl (n, omega arith, e)
look_on view next n true e (inl found) = inl (found.0, (let lt : found.0 < n = found.1 in omega arith), found.2)
look_on view next n true e (inr none) = inr (last_taken view next n e none)

look : (view : View) (next n : ℕ) → Looks view next n
look view next zero = inr (λ k lt. absurd (omega arith))
look view next (suc n) = look_on view next n (in_use_of view (number_on next n)) refl (look view next n)

pub a_free_number_is_among_the_next_65 : (view : View) (next : ℕ) → own_open_of view ≤ 64 → (places : ℕ) × (places < 65) × IsFree view (number_on next places)
a_free_number_is_among_the_next_65 view next few = elim (look view next 65) [
  | inl found ↦ found
  | inr none ↦ let many : 65 ≤ own_open_of view = crowded view next 65 (omega arith) none in absurd (omega arith)
]

pub first_free_is_one : (view : View) (next one other : ℕ) → IsFirstFree view next one → IsFirstFree view next other → one ≡ other
first_free_is_one view next one other h k = elim (apart_or_same h.places k.places) [
  | inl (inl less) ↦ absurd (k.others h.places less (ap (in_use_of view) (sym h.place) ∙ h.free))
  | inl (inr less) ↦ absurd (h.others k.places less (ap (in_use_of view) (sym k.place) ∙ k.free))
  | inr same ↦ h.place ∙ ap (number_on next) same ∙ sym k.place
]
