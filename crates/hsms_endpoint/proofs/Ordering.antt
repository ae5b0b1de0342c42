-- Open own transactions, in order of opening.
use Rattle.std.proofs.Common.{◌≡◌, ℕ, ◌-◌, ◌≤◌, ◌==◌, Bool, true, false, cond, ◌||◌, not, nat_lt, List, [], ◌∷◌, ◌++◌, filter, refl, ap, ◌∙◌, arith, append-nil}
use Rattle.std.specs.List.{list_any, AllByRecursion}
use Rattle.std.proofs.lemmas.Bool.Decides.{nat_tests}
use Rattle.hsms_machine.specs.declared.open_transactions.Transaction.{Transaction}
use Rattle.hsms_machine.specs.OpeningOrder.{IsOrdered}

pub ordered_later : (moment later : ℕ) (xs : List Transaction) → moment ≤ later → IsOrdered moment xs → IsOrdered later xs
ordered_later moment later [] le h = tt
ordered_later moment later (x ∷ xs) le h = ((let at : x.time ≤ moment = h.0 in omega arith), h.1, h.2, ordered_later moment later xs le h.3)

unfiltered : (xs : List Transaction) → filter (λ (transaction : Transaction). not false) xs ≡ xs
unfiltered [] = refl
unfiltered (x ∷ xs) = ap (λ ys. x ∷ ys) (unfiltered xs)

-- A pool from which nothing is removed.
pub as_it_was : (xs : List Transaction) → filter (λ (transaction : Transaction). not false) xs ++ [] ≡ xs
as_it_was xs = append-nil _ ∙ unfiltered xs

same_system : (n : ℕ) → (n == n) ≡ true
same_system n = grind (arith, nat_tests)

kept_step : (b : Bool) (x : Transaction) (ys zs : List Transaction) → b ≡ false → ys ≡ zs → cond (not b) (x ∷ ys) ys ≡ x ∷ zs
kept_step b x ys zs e same = ap (λ t. cond (not t) (x ∷ ys) ys) e ∙ ap (λ l. x ∷ l) same

others_stay : (system : ℕ) (xs : List Transaction) → AllByRecursion (λ (other : Transaction). (other.header.system == system) ≡ false) xs → filter (λ (opened : Transaction). not (opened.header.system == system)) xs ≡ xs
others_stay system [] all = refl
others_stay system (x ∷ xs) all = kept_step (x.header.system == system) x (filter (λ (opened : Transaction). not (opened.header.system == system)) xs) xs all.0 (others_stay system xs all.1)

removed_step : (b : Bool) (x : Transaction) (ys : List Transaction) → b ≡ true → cond (not b) (x ∷ ys) ys ≡ ys
removed_step b x ys e = ap (λ t. cond (not t) (x ∷ ys) ys) e

-- The expiry of the first transaction leaves the others.
pub first_removed : (moment : ℕ) (x : Transaction) (xs : List Transaction) → IsOrdered moment (x ∷ xs) → filter (λ (opened : Transaction). not (opened.header.system == x.header.system)) (x ∷ xs) ++ [] ≡ xs
first_removed moment x xs h =
    append-nil _
    ∙ removed_step (x.header.system == x.header.system) x _ (same_system x.header.system)
    ∙ others_stay x.header.system xs h.2

in_time_too : (limit moment time later : ℕ) → time ≤ later → nat_lt limit (moment - time) ≡ false → nat_lt limit (moment - later) ≡ false
in_time_too limit moment time later le e = grind (arith, nat_tests)

or_both : (a b : Bool) → a ≡ false → b ≡ false → (a || b) ≡ false
or_both a b e f = ap (λ x. x || b) e ∙ f

later_in_time : (limit moment time : ℕ) (xs : List Transaction) → AllByRecursion (λ (other : Transaction). time ≤ other.time) xs → nat_lt limit (moment - time) ≡ false → list_any (λ (opened : Transaction). nat_lt limit (moment - opened.time)) xs ≡ false
later_in_time limit moment time [] all e = refl
later_in_time limit moment time (x ∷ xs) all e =
    or_both (nat_lt limit (moment - x.time)) _ (in_time_too limit moment time x.time all.0 e) (later_in_time limit moment time xs all.1 e)

-- If the first transaction is in time, all are.
pub all_in_time : (limit moment at : ℕ) (x : Transaction) (xs : List Transaction) → IsOrdered at (x ∷ xs) → nat_lt limit (moment - x.time) ≡ false → list_any (λ (opened : Transaction). nat_lt limit (moment - opened.time)) (x ∷ xs) ≡ false
all_in_time limit moment at x xs h e = or_both (nat_lt limit (moment - x.time)) _ e (later_in_time limit moment x.time xs h.1 e)

none_kept : (test : Transaction → Bool) (x : Transaction) (ys : List Transaction) → test x ≡ false → ys ≡ [] → cond (test x) (x ∷ ys) ys ≡ []
none_kept test x ys e same = ap (λ t. cond t (x ∷ ys) ys) e ∙ same

neither : (a b : Bool) → (a || b) ≡ false → (a ≡ false) × (b ≡ false)
neither true b e = absurd (let d : true ≡ false = e in cc)
neither false b e = (refl, e)

-- If none passes the test, none is selected.
pub none_picked : (test : Transaction → Bool) (xs : List Transaction) → list_any test xs ≡ false → filter test xs ≡ []
none_picked test [] e = refl
none_picked test (x ∷ xs) e =
    let both : (test x ≡ false) × (list_any test xs ≡ false) = neither _ _ e in
    none_kept test x (filter test xs) both.0 (none_picked test xs both.1)

-- If the first one passes the test, it is selected first.
pub first_picked : (test : Transaction → Bool) (x : Transaction) (xs : List Transaction) → test x ≡ true → filter test (x ∷ xs) ≡ x ∷ filter test xs
first_picked test x xs e = ap (λ t. cond t (x ∷ filter test xs) (filter test xs)) e
