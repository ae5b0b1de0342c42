-- Lists whose elements all pass, and lists that start with others.
use Rattle.std.proofs.Common.{◌≡◌, Bool, true, false, cond, List, [], ◌∷◌, ◌++◌, map, filter, refl, sym, ap, ◌∙◌}
use Rattle.std.proofs.lemmas.List.{append_assoc}

abbrev pub Each : {A : Type 0} → (A → Type 0) → List A → Type 0
Each P [] = Unit {0}
Each P (x ∷ xs) = P x × Each P xs

pub everywhere : {A : Type 0} (xs : List A) → Each (λ (x : A). Unit {0}) xs
everywhere [] = tt
everywhere (x ∷ xs) = (tt, everywhere xs)

pub weaken : {A : Type 0} (P Q : A → Type 0) (xs : List A) → ((x : A) → P x → Q x) → Each P xs → Each Q xs
weaken P Q [] f h = tt
weaken P Q (x ∷ xs) f h = (f x h.0, weaken P Q xs f h.1)

pub both_hold : {A : Type 0} (P Q : A → Type 0) (xs : List A) → Each P xs → Each Q xs → Each (λ x. P x × Q x) xs
both_hold P Q [] f g = tt
both_hold P Q (x ∷ xs) f g = ((f.0, g.0), both_hold P Q xs f.1 g.1)

pub each_append : {A : Type 0} (P : A → Type 0) (xs ys : List A) → Each P xs → Each P ys → Each P (xs ++ ys)
each_append P [] ys f g = g
each_append P (x ∷ xs) ys f g = (f.0, each_append P xs ys f.1 g)

pub each_filter : {A : Type 0} (P : A → Type 0) (f : A → Bool) (xs : List A) → Each P xs → Each (λ x. P x × (f x ≡ true)) (filter f xs)
each_filter P f [] h = tt
each_filter P f (x ∷ xs) h = by_test (f x) refl (each_filter P f xs h.1)
  where
    by_test : (b : Bool) → f x ≡ b → Each (λ y. P y × (f y ≡ true)) (filter f xs)
        → Each (λ y. P y × (f y ≡ true)) (cond b (x ∷ filter f xs) (filter f xs))
    by_test true e later = ((h.0, e), later)
    by_test false e later = later

pub each_map : {A B : Type 0} (P : B → Type 0) (f : A → B) (xs : List A) → Each (λ x. P (f x)) xs → Each P (map f xs)
each_map P f [] h = tt
each_map P f (x ∷ xs) h = (h.0, each_map P f xs h.1)

abbrev pub Begins : (A : Type 0) → List A → List A → Type 0
Begins A xs ys = (rest : List A) × (ys ≡ xs ++ rest)

pub begins_cons : {A : Type 0} (x : A) (xs ys : List A) → Begins A xs ys → Begins A (x ∷ xs) (x ∷ ys)
begins_cons x xs ys h = (h.0, ap (λ z. x ∷ z) h.1)

pub begins_append : {A : Type 0} (zs xs ys : List A) → Begins A xs ys → Begins A (zs ++ xs) (zs ++ ys)
begins_append zs xs ys h = (h.0, ap (λ z. zs ++ z) h.1 ∙ sym (append_assoc zs xs h.0))
