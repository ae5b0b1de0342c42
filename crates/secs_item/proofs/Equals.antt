-- Comparison of items, value by value and element by element.
use Rattle.std.proofs.Common.{◌≡◌, ℕ, ◌+◌, ◌<◌, ◌≤◌, Bool, true, false, List, length, drop, get_or, refl, sym, ap, ◌∙◌, arith}
use Rattle.std.specs.Bool.{Decides}
use Rattle.std.specs.Cmp.Lexicographic.{pointwise}
use Rattle.std.proofs.lemmas.Slice.Eq.{slice_eq-Decides}
use Rattle.secs_item.specs.declared.item.Item.{Item}
use Rattle.secs_item.specs.Item.{Value, list, values, Values, Elements, element, view}
use Rattle.secs_item.specs.InnerItem.{views}
use Rattle.secs_item.proofs.Views.{views_from, views_done}

-- The result of `==` on the values decides whether the items are equal.
pub same_by : {X : Type 0} {E : X → X → Bool} (make : List X → Values) → ((xs ys : List X) → make xs ≡ make ys → xs ≡ ys) → ((x y : X) → Decides (E x y) (x ≡ y))
    → (xs ys : List X) (v w : Value) (r : Bool) → v ≡ values (make xs) → w ≡ values (make ys) → r ≡ pointwise E xs ys → (r ≡ true → v ≡ w) × (v ≡ w → r ≡ true)
same_by make one decides xs ys v w r v_is w_is r_is =
    let d = slice_eq-Decides decides xs ys r r_is in
    (λ h. v_is ∙ ap (λ zs. values (make zs)) (d.0 h) ∙ sym w_is, λ e. d.1 (one xs ys (inner (sym v_is ∙ e ∙ w_is))))
  where
    inner : values (make xs) ≡ values (make ys) → make xs ≡ make ys
    inner e = cc

pub same_lists : (items others : List Item) (v w : Value) (r : Bool) → v ≡ list (views items) → w ≡ list (views others) → (r ≡ true → views items ≡ views others) × (views items ≡ views others → r ≡ true) → (r ≡ true → v ≡ w) × (v ≡ w → r ≡ true)
same_lists items others v w r v_is w_is d = (λ h. v_is ∙ ap list (d.0 h) ∙ sym w_is, λ e. d.1 (inner (sym v_is ∙ e ∙ w_is)))
  where
    inner : list (views items) ≡ list (views others) → views items ≡ views others
    inner e = cc

-- Two booleans that decide the same proposition are equal.
pub decides_same : {P : Type 0} (a b : Bool) → Decides a P → Decides b P → a ≡ b
decides_same true b f g = sym (g.1 (f.0 refl))
decides_same false true f g = f.1 (g.0 refl)
decides_same false false f g = refl

-- ---- comparing elements

-- Loop invariant: the elements before index `i` are equal.
pub record IsComparing (items others : List Item) (i : ℕ) : Type 0 where
  pub lengths : length items ≡ length others
  pub proceeds : views (drop i items) ≡ views (drop i others) → views items ≡ views others
  pub back : views items ≡ views others → views (drop i items) ≡ views (drop i others)

pub starts_comparing : (items others : List Item) → length items ≡ length others → IsComparing items others 0
starts_comparing items others lengths = record { lengths = lengths; proceeds = λ e. e; back = λ e. e }

both : (v w : Value) (es fs : Elements) → element v es ≡ element w fs → (v ≡ w) × (es ≡ fs)
both v w es fs e = (cc, cc)

made : (v w : Value) (es fs : Elements) → v ≡ w → es ≡ fs → element v es ≡ element w fs
made v w es fs e f = cc

pub continues_comparing : (items others : List Item) (i : ℕ) (x y : Item) → i < length items → x ≡ get_or items i x → y ≡ get_or others i y → view x ≡ view y → IsComparing items others i → IsComparing items others (i + 1)
continues_comparing items others i x y lt x_is y_is same c =
    let a = views_from items i x lt x_is in
    let b = views_from others i y (omega (arith, c.lengths)) y_is in
    record {
      lengths = c.lengths;
      proceeds = λ e. c.proceeds (a ∙ made (view x) (view y) (views (drop (i + 1) items)) (views (drop (i + 1) others)) same e ∙ sym b);
      back = λ e. (both (view x) (view y) (views (drop (i + 1) items)) (views (drop (i + 1) others)) (sym a ∙ c.back e ∙ b)).1;
    }

-- One element differs.
pub differs : (items others : List Item) (i : ℕ) (x y : Item) → i < length items → x ≡ get_or items i x → y ≡ get_or others i y → (view x ≡ view y → ⊥) → IsComparing items others i → views items ≡ views others → ⊥
differs items others i x y lt x_is y_is other c e =
    let a = views_from items i x lt x_is in
    let b = views_from others i y (omega (arith, c.lengths)) y_is in
    other (both (view x) (view y) (views (drop (i + 1) items)) (views (drop (i + 1) others)) (sym a ∙ c.back e ∙ b)).0

-- All elements are equal.
pub ends_comparing : (items others : List Item) (i : ℕ) → length items ≤ i → IsComparing items others i → views items ≡ views others
ends_comparing items others i le c =
    c.proceeds (views_done items i le ∙ sym (views_done others i (omega (arith, c.lengths))))
