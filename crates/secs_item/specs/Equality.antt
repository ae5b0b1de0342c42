-- Equality of items: two items have the same value if they have the same format, and the same values or elements in the
-- same order.
use Rattle.std.specs.Prelude.{◌≡◌, ℕ, Bool, true, false, ◌==◌, ◌&&◌, List, refl}
use Rattle.std.specs.Bool.{Decides}
use Rattle.std.specs.Ordering.{int_eq}
use Rattle.std.specs.Cmp.{booleans_Decides}
use Rattle.std.specs.Cmp.Lexicographic.{pointwise}
use Rattle.std.proofs.Common.{ap, subst}
use Rattle.std.proofs.Math.Bool.{beq}
use Rattle.std.proofs.lemmas.Bool.Decides.{Decides-eqb, Decides-int_eq}
use Rattle.std.proofs.lemmas.Slice.Eq.{slice_eq-Decides}
use Rattle.secs_item.specs.Item.{Value, list, values, Values, binary, boolean, ascii, jis8, char2, i8, i1, i2, i4, f8, f4, u8, u1, u2, u4, Elements, no_elements, element}

abbrev pub same_values : Values → Values → Bool
same_values (binary xs) (binary ys) = pointwise ◌==◌ xs ys
same_values (boolean xs) (boolean ys) = pointwise beq xs ys
same_values (ascii xs) (ascii ys) = pointwise ◌==◌ xs ys
same_values (jis8 xs) (jis8 ys) = pointwise ◌==◌ xs ys
same_values (char2 xs) (char2 ys) = pointwise ◌==◌ xs ys
same_values (i8 xs) (i8 ys) = pointwise int_eq xs ys
same_values (i1 xs) (i1 ys) = pointwise int_eq xs ys
same_values (i2 xs) (i2 ys) = pointwise int_eq xs ys
same_values (i4 xs) (i4 ys) = pointwise int_eq xs ys
same_values (f8 xs) (f8 ys) = pointwise (pointwise ◌==◌) xs ys
same_values (f4 xs) (f4 ys) = pointwise (pointwise ◌==◌) xs ys
same_values (u8 xs) (u8 ys) = pointwise ◌==◌ xs ys
same_values (u1 xs) (u1 ys) = pointwise ◌==◌ xs ys
same_values (u2 xs) (u2 ys) = pointwise ◌==◌ xs ys
same_values (u4 xs) (u4 ys) = pointwise ◌==◌ xs ys
same_values v w = false

abbrev mutual
  pub same_value : Value → Value → Bool
  same_value (list es) (list fs) = same_elements es fs
  same_value (list es) (values w) = false
  same_value (values v) (list fs) = false
  same_value (values v) (values w) = same_values v w

  pub same_elements : Elements → Elements → Bool
  same_elements no_elements no_elements = true
  same_elements no_elements (element w fs) = false
  same_elements (element v es) no_elements = false
  same_elements (element v es) (element w fs) = same_value v w && same_elements es fs

-- ---- the comparison decides exactly whether two values are equal

pub octets_Decides : (xs ys : List ℕ) → Decides (pointwise ◌==◌ xs ys) (xs ≡ ys)
octets_Decides xs ys = slice_eq-Decides Decides-eqb xs ys (pointwise ◌==◌ xs ys) refl

lists : {X : Type 0} {same : X → X → Bool} → ((x y : X) → Decides (same x y) (x ≡ y)) → (xs ys : List X) → Decides (pointwise same xs ys) (xs ≡ ys)
lists decides xs ys = slice_eq-Decides decides xs ys _ refl

same_if : (v w : Values) → same_values v w ≡ true → v ≡ w
same_if (binary xs) (binary ys) h = ap binary ((lists Decides-eqb xs ys).0 h)
same_if (boolean xs) (boolean ys) h = ap boolean ((lists booleans_Decides xs ys).0 h)
same_if (ascii xs) (ascii ys) h = ap ascii ((lists Decides-eqb xs ys).0 h)
same_if (jis8 xs) (jis8 ys) h = ap jis8 ((lists Decides-eqb xs ys).0 h)
same_if (char2 xs) (char2 ys) h = ap char2 ((lists Decides-eqb xs ys).0 h)
same_if (i8 xs) (i8 ys) h = ap i8 ((lists Decides-int_eq xs ys).0 h)
same_if (i1 xs) (i1 ys) h = ap i1 ((lists Decides-int_eq xs ys).0 h)
same_if (i2 xs) (i2 ys) h = ap i2 ((lists Decides-int_eq xs ys).0 h)
same_if (i4 xs) (i4 ys) h = ap i4 ((lists Decides-int_eq xs ys).0 h)
same_if (f8 xs) (f8 ys) h = ap f8 ((lists octets_Decides xs ys).0 h)
same_if (f4 xs) (f4 ys) h = ap f4 ((lists octets_Decides xs ys).0 h)
same_if (u8 xs) (u8 ys) h = ap u8 ((lists Decides-eqb xs ys).0 h)
same_if (u1 xs) (u1 ys) h = ap u1 ((lists Decides-eqb xs ys).0 h)
same_if (u2 xs) (u2 ys) h = ap u2 ((lists Decides-eqb xs ys).0 h)
same_if (u4 xs) (u4 ys) h = ap u4 ((lists Decides-eqb xs ys).0 h)
same_if v w h = absurd cc

same_itself : (v : Values) → same_values v v ≡ true
same_itself (binary xs) = (lists Decides-eqb xs xs).1 refl
same_itself (boolean xs) = (lists booleans_Decides xs xs).1 refl
same_itself (ascii xs) = (lists Decides-eqb xs xs).1 refl
same_itself (jis8 xs) = (lists Decides-eqb xs xs).1 refl
same_itself (char2 xs) = (lists Decides-eqb xs xs).1 refl
same_itself (i8 xs) = (lists Decides-int_eq xs xs).1 refl
same_itself (i1 xs) = (lists Decides-int_eq xs xs).1 refl
same_itself (i2 xs) = (lists Decides-int_eq xs xs).1 refl
same_itself (i4 xs) = (lists Decides-int_eq xs xs).1 refl
same_itself (f8 xs) = (lists octets_Decides xs xs).1 refl
same_itself (f4 xs) = (lists octets_Decides xs xs).1 refl
same_itself (u8 xs) = (lists Decides-eqb xs xs).1 refl
same_itself (u1 xs) = (lists Decides-eqb xs xs).1 refl
same_itself (u2 xs) = (lists Decides-eqb xs xs).1 refl
same_itself (u4 xs) = (lists Decides-eqb xs xs).1 refl

both_true : (a b : Bool) → (a && b) ≡ true → (a ≡ true) × (b ≡ true)
both_true true b h = (refl, h)
both_true false b h = absurd cc

mutual
  equal_if : (v w : Value) → same_value v w ≡ true → v ≡ w
  equal_if (list es) (list fs) h = ap list (elements_equal_if es fs h)
  equal_if (list es) (values w) h = absurd cc
  equal_if (values v) (list fs) h = absurd cc
  equal_if (values v) (values w) h = ap values (same_if v w h)

  elements_equal_if : (es fs : Elements) → same_elements es fs ≡ true → es ≡ fs
  elements_equal_if no_elements no_elements h = refl
  elements_equal_if no_elements (element w fs) h = absurd cc
  elements_equal_if (element v es) no_elements h = absurd cc
  elements_equal_if (element v es) (element w fs) h =
      let p = both_true (same_value v w) (same_elements es fs) h in
      let first : v ≡ w = equal_if v w p.0 in
      let others : es ≡ fs = elements_equal_if es fs p.1 in
      cc

mutual
  equal_itself : (v : Value) → same_value v v ≡ true
  equal_itself (list es) = elements_equal_itself es
  equal_itself (values v) = same_itself v

  elements_equal_itself : (es : Elements) → same_elements es es ≡ true
  elements_equal_itself no_elements = refl
  elements_equal_itself (element v es) = rw (equal_itself v) (elements_equal_itself es)

pub same_value-Decides : (v w : Value) → Decides (same_value v w) (v ≡ w)
same_value-Decides v w = (equal_if v w, λ e. subst (λ (x : Value). same_value v x ≡ true) e (equal_itself v))
