-- What is used in turn, and messages by stream and function.
use Rattle.std.proofs.Common.{◌≡◌, ◌++◌, ◌∷◌, ℕ, [], ◌-◌, ◌&&◌, if◌then◌else◌, cond, nat_eq, Option, Some, None, List, length, min, slice_get, Bool, true, false, refl, sym, ap, ◌∙◌, zero, suc, arith, unwrap_or, eqb-true, append-nil, Vec}
use Rattle.std.specs.Option.{option_map_or}
use Rattle.std.specs.Prelude.{MatchOption, option_map, ◌≤◌, ◌<◌}
use Rattle.std.specs.List.{HoldsAt}
use Rattle.std.proofs.Common.{Bor}
use Rattle.std.proofs.lemmas.Bool.Decides.{nat_tests}
use Rattle.std.proofs.lemmas.Option.{slice_get_past, slice_get-get_or}
use Rattle.indexmap.specs.IndexMap.{IndexMap, get}
use Rattle.secs_text.specs.declared.message.Message.{Message}
use Rattle.secs_text.specs.View.{content}
use Rattle.hsms_ends.specs.ScriptedDesk.{has_head, in_turn, with_head}

-- After one more, the first is passed over, unless it is the last.
after_one : {X : Type 0} (n : ℕ) (x : X) (xs : List X) → in_turn (suc n) (x ∷ xs) ≡ Some (unwrap_or (in_turn n xs) x)
after_one {X} n x xs =
    let later : nat_eq (suc n) 0 ≡ false = grind (arith, nat_tests) in
    let less : suc n - 1 ≡ n = omega arith in
    ap (λ (b : Bool). Some (if b then x else unwrap_or (in_turn (suc n - 1) xs) x)) later
    ∙ ap (λ (k : ℕ). Some (unwrap_or (in_turn k xs) x)) less

-- The element that is used after n others is the n-th, or the last one.
pub in_turn_at : {X : Type 0} (n : ℕ) (xs : List X) → in_turn n xs ≡ slice_get xs (min n (length xs - 1))
in_turn_at n [] = refl
in_turn_at zero (x ∷ []) = refl
in_turn_at (suc n) (x ∷ []) =
    let first : zero ≡ min (suc n) (length (x ∷ []) - 1) = omega arith in
    after_one n x [] ∙ ap (λ (k : ℕ). slice_get (x ∷ []) k) first
in_turn_at zero (x ∷ y ∷ ys) =
    let first : zero ≡ min zero (length (x ∷ y ∷ ys) - 1) = omega arith in ap (λ (k : ℕ). slice_get (x ∷ y ∷ ys) k) first
in_turn_at (suc n) (x ∷ y ∷ ys) =
    let next : suc (min n (length (y ∷ ys) - 1)) ≡ min (suc n) (length (x ∷ y ∷ ys) - 1) = omega arith in
    after_one n x (y ∷ ys) ∙ in_turn_at n (y ∷ ys) ∙ ap (λ (k : ℕ). slice_get (x ∷ y ∷ ys) k) next

-- What a slice shows at an index.
pub shown_at : {X : Type 0} (o : Option (Bor X)) (xs : List X) (i : ℕ)
    → MatchOption o (length xs ≤ i) (λ x. (i < length xs) × HoldsAt (λ y. x.now ≡ y) xs i)
    → option_map (λ x. x.now) o ≡ slice_get xs i
shown_at None xs i h = sym (slice_get_past xs i h)
shown_at (Some x) xs i h = ap Some (h.1 x.now) ∙ sym (slice_get-get_or xs i x.now h.0)

-- Whether two pairs of a stream and a function are the same.
abbrev pub same_head : ℕ × ℕ → ℕ × ℕ → Bool
same_head x y = nat_eq x.0 y.0 && nat_eq x.1 y.1

-- The messages by stream and function, after the group of one stream and function was taken out and put back with one more.
module _ {A S : Type 0} (old mid new : IndexMap (ℕ × ℕ) (Vec Message A) S) (a b : ℕ) (group : Vec Message A) (message : Message)
    (taken : (q : ℕ × ℕ) → get same_head mid q ≡ cond (same_head (a, b) q) None (get same_head old q))
    (put : (q : ℕ × ℕ) → get same_head new q ≡ cond (same_head (a, b) q) (Some group) (get same_head mid q))
    (grown : group.items ≡ with_head old a b ++ (message ∷ [])) where
  abbrev pub items_or : Option (Vec Message A) → List Message
  items_or o = option_map_or (λ g. g.items) o []

  other : (s f : ℕ) → same_head (a, b) (s, f) ≡ false → with_head new s f ≡ with_head old s f ++ []
  other s f is =
      ap items_or (put (s, f) ∙ ap (λ c. cond c (Some group) (get same_head mid (s, f))) is
      ∙ taken (s, f) ∙ ap (λ c. cond c None (get same_head old (s, f))) is)
      ∙ sym (append-nil (with_head old s f))

  both : (s f : ℕ) (p q : Bool) → nat_eq a s ≡ p → nat_eq b f ≡ q → same_head (a, b) (s, f) ≡ (p && q)
  both s f p q is_s is_f = ap (λ x. x && nat_eq b f) is_s ∙ ap (λ y. p && y) is_f

  by_case : (s f : ℕ) (p q : Bool) → nat_eq a s ≡ p → nat_eq b f ≡ q
      → with_head new s f ≡ with_head old s f ++ (if p && q then message ∷ [] else [])
  by_case s f true true is_s is_f =
      ap items_or (put (s, f) ∙ ap (λ c. cond c (Some group) (get same_head mid (s, f))) (both s f true true is_s is_f))
      ∙ grown ∙ ap (λ (z : ℕ). with_head old z b ++ (message ∷ [])) (eqb-true a s is_s)
      ∙ ap (λ (z : ℕ). with_head old s z ++ (message ∷ [])) (eqb-true b f is_f)
  by_case s f true false is_s is_f = other s f (both s f true false is_s is_f)
  by_case s f false true is_s is_f = other s f (both s f false true is_s is_f)
  by_case s f false false is_s is_f = other s f (both s f false false is_s is_f)

  pub group_grows : a ≡ (content message).stream → b ≡ (content message).function → (s f : ℕ)
      → with_head new s f ≡ with_head old s f ++ (if has_head s f message then message ∷ [] else [])
  group_grows is_a is_b s f =
      by_case s f (nat_eq (content message).stream s) (nat_eq (content message).function f)
      (ap (λ z. nat_eq z s) is_a) (ap (λ z. nat_eq z f) is_b)
