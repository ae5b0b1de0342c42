-- If there are more consecutive numbers than open own transactions, one of the numbers is free.
use Rattle.std.proofs.Common.{◌≡◌, ℕ, zero, suc, ◌+◌, ◌^◌, ◌<◌, ◌≤◌, nat_eq, Bool, true, false, ◌||◌, List, [], ◌∷◌, ◌++◌, length, map, refl, sym, ap, subst, ◌∙◌, inl, inr, ◌⊎◌, arith, length-append}
use Rattle.std.specs.List.{list_any, AllByRecursion, IsDistinct}
use Rattle.std.specs.Cmp.{nat_eq_equiv}
use Rattle.std.proofs.lemmas.Bool.Decides.{nat_tests}
use Rattle.std.proofs.lemmas.Map.Made.{length-le_from_is_member}
use Rattle.hsms_machine.specs.declared.open_transactions.Transaction.{Transaction}
use Rattle.hsms_machine.specs.declared.view.View.{View}
use Rattle.hsms_machine.specs.View.{in_use_of, own_open_of}
use Rattle.hsms_endpoint.specs.SystemBytes.{number_on, IsFree}

-- The numbers from the next one on, the last one first.
abbrev numbers : ℕ → ℕ → List ℕ
numbers next zero = []
numbers next (suc n) = number_on next n ∷ numbers next n

apart : (next n m : ℕ) → m < n → n < 2 ^ 32 → nat_eq (number_on next n) (number_on next m) ≡ false
apart next n m lt le = grind (arith, nat_tests)

all_apart : (next n m : ℕ) → m ≤ n → n < 2 ^ 32 → AllByRecursion (λ other. nat_eq (number_on next n) other ≡ false) (numbers next m)
all_apart next n zero le lt = tt
all_apart next n (suc m) le lt = (apart next n m (omega arith) lt, all_apart next n m (omega arith) lt)

distinct : (next n : ℕ) → n ≤ 2 ^ 32 → IsDistinct nat_eq (numbers next n)
unfolding IsDistinct
distinct next zero le = tt
distinct next (suc n) le = (all_apart next n n (omega arith) (omega arith), distinct next n (omega arith))

length-numbers : (next n : ℕ) → length (numbers next n) ≡ n
length-numbers next zero = refl
length-numbers next (suc n) = ap suc (length-numbers next n)

or_cases : (a b : Bool) → (a || b) ≡ true → (a ≡ true) ⊎ (b ≡ true)
or_cases true b e = inl refl
or_cases false b e = inr e

eq_from : (a b : ℕ) → nat_eq a b ≡ true → a ≡ b
eq_from a b e = grind (arith, nat_tests)

eq_turned : (a b : ℕ) → nat_eq a b ≡ nat_eq b a
eq_turned a b = grind (arith, nat_tests)

-- Each of the numbers is fewer than n further on.
number_of : (next n q : ℕ) → list_any (nat_eq q) (numbers next n) ≡ true → (k : ℕ) × (k < n) × (q ≡ number_on next k)
number_of next zero q e = absurd (let d : false ≡ true = e in cc)
number_of next (suc n) q e = elim (or_cases _ _ e) [
  | inl here ↦ (n, omega arith, eq_from q (number_on next n) here)
  | inr later ↦ let h = number_of next n q later in (h.0, (let lt : h.0 < n = h.1 in omega arith), h.2)
]

abbrev systems : List Transaction → List ℕ
systems opened = map (λ (transaction : Transaction). transaction.header.system) opened

length-systems : (opened : List Transaction) → length (systems opened) ≡ length opened
length-systems [] = refl
length-systems (x ∷ xs) = ap suc (length-systems xs)

is_in : (opened : List Transaction) (system : ℕ) (more : List ℕ) → (list_any (λ (transaction : Transaction). nat_eq transaction.header.system system) opened || list_any (nat_eq system) more) ≡ true → list_any (nat_eq system) (systems opened ++ more) ≡ true
is_in [] system more e = e
is_in (x ∷ xs) system more e = joined (nat_eq x.header.system system) (nat_eq system x.header.system) (list_any (λ (transaction : Transaction). nat_eq transaction.header.system system) xs) (list_any (nat_eq system) more) (list_any (nat_eq system) (systems xs ++ more)) (eq_turned x.header.system system) (is_in xs system more) e
  where
    joined : (a b c d r : Bool) → a ≡ b → ((c || d) ≡ true → r ≡ true) → ((a || c) || d) ≡ true → (b || r) ≡ true
    joined true b c d r same f e = ap (λ x. x || r) (sym same)
    joined false b c d r same f e = ap (λ x. x || r) (sym same) ∙ f e

all_in : (opened : List Transaction) (system : ℕ) → list_any (λ (transaction : Transaction). nat_eq transaction.header.system system) opened ≡ true → list_any (nat_eq system) (systems opened) ≡ true
all_in [] system e = e
all_in (x ∷ xs) system e = elim (or_cases _ _ e) [
  | inl here ↦ ap (λ b. b || list_any (nat_eq system) (systems xs)) (sym (eq_turned x.header.system system) ∙ here)
  | inr later ↦ or_later (nat_eq system x.header.system) _ (all_in xs system later)
]
  where
    or_later : (a b : Bool) → b ≡ true → (a || b) ≡ true
    or_later true b e = refl
    or_later false b e = e

not_free : (b : Bool) → (b ≡ false → ⊥) → b ≡ true
not_free true f = refl
not_free false f = absurd (f refl)

-- If n consecutive numbers are in use, at least n transactions are open.
pub crowded : (view : View) (next n : ℕ) → n ≤ 2 ^ 32 → ((k : ℕ) → k < n → ¬ IsFree view (number_on next k)) → n ≤ own_open_of view
crowded view next n le taken =
    let all : List ℕ = systems view.sent_data ++ systems view.sent_control in
    let inside : (q : ℕ) → list_any (nat_eq q) (numbers next n) ≡ true → list_any (nat_eq q) all ≡ true = λ q e.
    (let h = number_of next n q e in
    let busy : in_use_of view q ≡ true = not_free (in_use_of view q) (subst (λ x. in_use_of view x ≡ false → ⊥) (sym h.2) (taken h.0 h.1)) in
    is_in view.sent_data q (systems view.sent_control) (busy_too (list_any (λ (transaction : Transaction). nat_eq transaction.header.system q) view.sent_data) _ _ (all_in view.sent_control q) busy)) in
    let h : length (numbers next n) ≤ length all = length-le_from_is_member nat_eq_equiv (numbers next n) all (distinct next n le) inside in
    let e1 : length (numbers next n) ≡ n = length-numbers next n in
    let e2 : length all ≡ length (systems view.sent_data) + length (systems view.sent_control) = length-append (systems view.sent_data) (systems view.sent_control) in
    let e3 : length (systems view.sent_data) ≡ length view.sent_data = length-systems view.sent_data in
    let e4 : length (systems view.sent_control) ≡ length view.sent_control = length-systems view.sent_control in
    omega arith
  where
    busy_too : (a b c : Bool) → (b ≡ true → c ≡ true) → (a || b) ≡ true → (a || c) ≡ true
    busy_too true b c f e = refl
    busy_too false b c f e = f e
