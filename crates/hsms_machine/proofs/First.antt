-- The first rule of a list that applies.
use Rattle.std.proofs.Common.{◌≡◌, true, false, List, [], ◌∷◌, ◌++◌, Option, Some, None, is_some, is_none, inl, inr, refl, sym, subst, ◌∙◌}
use Rattle.hsms_machine.specs.declared.rule.Rule.{Rule}
use Rattle.hsms_machine.specs.Rule.{IsFirst}

module _ (Applies : Rule → Type 0) where
  -- If none of the first rules applies, the others decide.
  pub first_append : (xs ys : List Rule) (a : Option Rule) → IsFirst Applies xs None → IsFirst Applies ys a → IsFirst Applies (xs ++ ys) a
  first_append [] ys a h k = k
  first_append (x ∷ xs) ys a h k = elim h [
    | inl p ↦ absurd (let e : None ≡ Some x = p.1 in cc)
    | inr q ↦ inr (q.0, first_append xs ys a q.1 k)
  ]

  -- If one of the first rules applies, the others are not considered.
  pub first_front : (xs ys : List Rule) (r : Rule) → IsFirst Applies xs (Some r) → IsFirst Applies (xs ++ ys) (Some r)
  first_front [] ys r h = absurd (let e : ◌≡◌ {A = Option Rule} (Some r) None = h in cc)
  first_front (x ∷ xs) ys r h = elim h [
    | inl p ↦ inl p
    | inr q ↦ inr (q.0, first_front xs ys r q.1)
  ]

  pub first_after : (xs ys : List Rule) (a b : Option Rule) → is_some a ≡ false → IsFirst Applies xs a → IsFirst Applies ys b → IsFirst Applies (xs ++ ys) b
  first_after xs ys None b e h k = first_append xs ys b h k
  first_after xs ys (Some r) b e h k = absurd (let d : true ≡ false = e in cc)

  pub first_found : (xs ys : List Rule) (a : Option Rule) → is_some a ≡ true → IsFirst Applies xs a → IsFirst Applies (xs ++ ys) a
  first_found xs ys None e h = absurd (let d : false ≡ true = e in cc)
  first_found xs ys (Some r) e h = first_front xs ys r h

  -- A last rule that does not apply may be omitted.
  pub first_extend : (xs : List Rule) (y : Rule) (a : Option Rule) → (Applies y → ⊥) → IsFirst Applies xs a → IsFirst Applies (xs ++ y ∷ []) a
  first_extend [] y a never h = inr (never, h)
  first_extend (x ∷ xs) y a never h = elim h [
    | inl p ↦ inl p
    | inr q ↦ inr (q.0, first_extend xs y a never q.1)
  ]

  pub none_head : (x : Rule) (xs : List Rule) → IsFirst Applies (x ∷ xs) None → (Applies x → ⊥) × IsFirst Applies xs None
  none_head x xs h = elim h [
    | inl p ↦ absurd (let e : None ≡ Some x = p.1 in cc)
    | inr q ↦ (q.0, q.1)
  ]

  -- If no rule applies, the result is none.
  pub first_none : (xs : List Rule) (a : Option Rule) → ((r : Rule) → Applies r → ⊥) → IsFirst Applies xs a → a ≡ None
  first_none [] a never h = h
  first_none (x ∷ xs) a never h = elim h [
    | inl p ↦ absurd (never x p.0)
    | inr q ↦ first_none xs a never q.1
  ]

  pub none_from : (xs : List Rule) → ((r : Rule) → Applies r → ⊥) → IsFirst Applies xs None
  none_from [] never = refl
  none_from (x ∷ xs) never = inr (never x, none_from xs never)

  -- The first rule applies.
  pub applies : (xs : List Rule) (rule : Rule) → IsFirst Applies xs (Some rule) → Applies rule
  applies [] rule h = absurd (let d : ◌≡◌ {A = Option Rule} (Some rule) None = h in cc)
  applies (x ∷ xs) rule h = elim h [
    | inl p ↦ let same : x ≡ rule = (let e : ◌≡◌ {A = Option Rule} (Some rule) (Some x) = p.1 in cc) in subst Applies same p.0
    | inr q ↦ applies xs rule q.1
  ]

  -- No rule before it applies.
  pub not_first : (x : Rule) (xs : List Rule) (rule : Rule) → (x ≡ rule → ⊥) → IsFirst Applies (x ∷ xs) (Some rule)
      → (Applies x → ⊥) × IsFirst Applies xs (Some rule)
  not_first x xs rule other h = elim h [
    | inl p ↦ absurd (other (let e : ◌≡◌ {A = Option Rule} (Some rule) (Some x) = p.1 in cc))
    | inr q ↦ (q.0, q.1)
  ]

-- Equivalent conditions have the same first rule.
pub first_agrees : (P Q : Rule → Type 0) (xs : List Rule) (a : Option Rule) → ((r : Rule) → P r → Q r) → ((r : Rule) → Q r → P r) → IsFirst P xs a → IsFirst Q xs a
first_agrees P Q [] a to from h = h
first_agrees P Q (x ∷ xs) a to from h = elim h [
  | inl p ↦ inl (to x p.0, p.1)
  | inr q ↦ inr ((λ y. q.0 (from x y)), first_agrees P Q xs a to from q.1)
]

-- There is at most one first rule.
pub first_same : (P : Rule → Type 0) (xs : List Rule) (a b : Option Rule) → IsFirst P xs a → IsFirst P xs b → a ≡ b
first_same P [] a b h k = h ∙ sym k
first_same P (x ∷ xs) a b h k = elim h [
  | inl p ↦ elim k [ inl q ↦ p.1 ∙ sym q.1 | inr q ↦ absurd (q.0 p.0) ]
  | inr p ↦ elim k [ inl q ↦ absurd (p.0 q.0) | inr q ↦ first_same P xs a b p.1 q.1 ]
]

pub none_is : (a : Option Rule) → is_none a ≡ true → a ≡ None
none_is None e = refl
none_is (Some r) e = absurd (let d : false ≡ true = e in cc)
