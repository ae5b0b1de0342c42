-- The earliest time of joined lists.
use Rattle.std.proofs.Common.{◌≡◌, ℕ, min, List, [], ◌∷◌, ◌++◌, Option, Some, None, refl, sym, ap, ◌∙◌, arith, option_to_list}
use Rattle.hsms_machine.specs.Timer.{least_of, least_in}

least_of-none : (a : Option ℕ) → least_of a None ≡ a
least_of-none None = refl
least_of-none (Some x) = refl

min_assoc : (x y z : ℕ) → min (min x y) z ≡ min x (min y z)
min_assoc x y z = omega arith

least_of-assoc : (a b c : Option ℕ) → least_of (least_of a b) c ≡ least_of a (least_of b c)
least_of-assoc None b c = refl
least_of-assoc (Some x) None c = refl
least_of-assoc (Some x) (Some y) None = refl
least_of-assoc (Some x) (Some y) (Some z) = ap (λ n. Some n) (min_assoc x y z)

pub least_in-append : (xs ys : List ℕ) → least_in (xs ++ ys) ≡ least_of (least_in xs) (least_in ys)
least_in-append [] ys = refl
least_in-append (x ∷ xs) ys =
    ap (least_of (Some x)) (least_in-append xs ys) ∙ sym (least_of-assoc (Some x) (least_in xs) (least_in ys))

pub least_in-option : (a : Option ℕ) → least_in (option_to_list a) ≡ a
least_in-option None = refl
least_in-option (Some x) = refl
