-- Lists in loops, and options.
use Rattle.std.proofs.Common.{◌≡◌, ◌<◌, ◌+◌, ◌||◌, ◌++◌, ◌∷◌, ℕ, Bool, true, false, not, is_none, nat_lt, List, [], length, take, drop, get_or, map, Option, Some, None, is_some, refl, sym, ap, ◌∙◌, arith}
use Rattle.std.proofs.lemmas.List.{append-nil, drop_more, map-id, take_all, take-append-drop}
use Rattle.std.proofs.lemmas.Grind.{common_steps}
use Rattle.capture_events.specs.ConnectionItems.{is_there}

pub taken_apart : {A : Type 0} (all yielded : List A) (x : A) → map (λ (y : A). y) yielded ≡ take (length yielded) all → length yielded < length all
    → x ≡ get_or all (length yielded) x → all ≡ yielded ++ x ∷ drop (length yielded + 1) all
taken_apart {A} all yielded x front less is =
    let n = length yielded in
    sym (take-append-drop n all) ∙ ap (λ (ys : List A). ys ++ drop n all) (sym front ∙ map-id yielded)
    ∙ ap (λ (ys : List A). yielded ++ ys) (drop_more all n x less ∙ ap (λ (y : A). y ∷ drop (n + 1) all) (sym is))

pub all_yielded : {A : Type 0} (all yielded : List A) → map (λ (y : A). y) yielded ≡ take (length yielded) all → length yielded ≡ length all → yielded ≡ all
all_yielded {A} all yielded front same = sym (map-id yielded) ∙ front ∙ take_all (length yielded) all (omega (arith, same))

pub none_of : {A : Type 0} (o : Option A) → false ≡ is_some o → o ≡ None
none_of None e = refl
none_of (Some x) e = absurd cc

pub some_of : {A : Type 0} (o : Option A) → true ≡ is_some o → (x : A) × (o ≡ Some x)
some_of None e = absurd cc
some_of (Some x) e = (x, refl)

-- A list is not empty if its prefix is not, or if more is appended.
pub there_by : {A B : Type 0} (xs ys : List A) (old new : List B) (f : A → B) → new ≡ old ++ map f ys
    → (is_there xs || nat_lt (length old) (length new)) ≡ is_there (xs ++ ys)
there_by (x ∷ xs) ys old new f e = refl
there_by [] [] old new f e = rw (e, append-nil old) (irreflexive (length old))
  where
    irreflexive : (n : ℕ) → nat_lt n n ≡ false
    irreflexive n = grind arith
there_by [] (y ∷ ys) old new f e = rw e (more old (f y) (map f ys))
  where
    more : {B : Type 0} (old : List B) (z : B) (zs : List B) → nat_lt (length old) (length (old ++ z ∷ zs)) ≡ true
    more old z zs = grind (arith, common_steps)

pub none_is : {A : Type 0} (o : Option A) (b : Bool) → is_some o ≡ not b → b ≡ is_none o
none_is None true e = refl
none_is None false e = absurd cc
none_is (Some x) true e = absurd cc
none_is (Some x) false e = refl
