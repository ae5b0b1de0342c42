-- The view of an item, level by level.
use Rattle.std.proofs.Common.{◌≡◌, ℕ, ℤ, ◌+◌, ◌<◌, ◌≤◌, Bool, List, [], ◌∷◌, ◌++◌, length, map, take, drop, get_or, Vec, Global, max, min, Result, Ok, Err, sym, ap, ◌∙◌, rules, arith}
use Rattle.std.specs.Prelude.{IfOk, IsOkAnd, MatchResult}
use Rattle.std.proofs.lemmas.List.{at_drop_more, at_drop_all, take_more, take_all, map-append}
use Rattle.secs_item.specs.Item.{Value, list, Values, values, no_elements, element, binary, boolean, ascii, jis8, char2, i1, i2, i4, i8, u1, u2, u4, u8, f4, f8, elements_of, nest, nest_of_elements, view}
use Rattle.secs_item.specs.InnerItem.{views}
use Rattle.secs_item.specs.declared.item.Item.{Item, the_lemmas, List as item_list, Binary as item_binary, Boolean as item_boolean, Ascii as item_ascii, Jis8 as item_jis8, Char2 as item_char2, I1 as item_i1, I2 as item_i2, I4 as item_i4, I8 as item_i8, U1 as item_u1, U2 as item_u2, U4 as item_u4, U8 as item_u8, F4 as item_f4, F8 as item_f8}

pub view-List : (v : Vec Item Global) → view (item_list v) ≡ list (views v.items)
view-List v = search (rules, the_lemmas)

pub view-Binary : (v : Vec ℕ Global) → view (item_binary v) ≡ values (binary v.items)
view-Binary v = search (rules, the_lemmas)

pub view-Boolean : (v : Vec Bool Global) → view (item_boolean v) ≡ values (boolean v.items)
view-Boolean v = search (rules, the_lemmas)

pub view-Ascii : (v : Vec ℕ Global) → view (item_ascii v) ≡ values (ascii v.items)
view-Ascii v = search (rules, the_lemmas)

pub view-Jis8 : (v : Vec ℕ Global) → view (item_jis8 v) ≡ values (jis8 v.items)
view-Jis8 v = search (rules, the_lemmas)

pub view-Char2 : (v : Vec ℕ Global) → view (item_char2 v) ≡ values (char2 v.items)
view-Char2 v = search (rules, the_lemmas)

pub view-I1 : (v : Vec ℤ Global) → view (item_i1 v) ≡ values (i1 v.items)
view-I1 v = search (rules, the_lemmas)

pub view-I2 : (v : Vec ℤ Global) → view (item_i2 v) ≡ values (i2 v.items)
view-I2 v = search (rules, the_lemmas)

pub view-I4 : (v : Vec ℤ Global) → view (item_i4 v) ≡ values (i4 v.items)
view-I4 v = search (rules, the_lemmas)

pub view-I8 : (v : Vec ℤ Global) → view (item_i8 v) ≡ values (i8 v.items)
view-I8 v = search (rules, the_lemmas)

pub view-U1 : (v : Vec ℕ Global) → view (item_u1 v) ≡ values (u1 v.items)
view-U1 v = search (rules, the_lemmas)

pub view-U2 : (v : Vec ℕ Global) → view (item_u2 v) ≡ values (u2 v.items)
view-U2 v = search (rules, the_lemmas)

pub view-U4 : (v : Vec ℕ Global) → view (item_u4 v) ≡ values (u4 v.items)
view-U4 v = search (rules, the_lemmas)

pub view-U8 : (v : Vec ℕ Global) → view (item_u8 v) ≡ values (u8 v.items)
view-U8 v = search (rules, the_lemmas)

pub view-F4 : (v : Vec (List ℕ) Global) → view (item_f4 v) ≡ values (f4 v.items)
view-F4 v = search (rules, the_lemmas)

pub view-F8 : (v : Vec (List ℕ) Global) → view (item_f8 v) ≡ values (f8 v.items)
view-F8 v = search (rules, the_lemmas)

-- ---- the elements from an index on

pub views_from : (items : List Item) (i : ℕ) (x : Item) → i < length items → x ≡ get_or items i x → views (drop i items) ≡ element (view x) (views (drop (i + 1) items))
views_from items i x lt is = at_drop_more (λ (xs : List Item). views xs) items i x lt ∙ ap (λ (y : Item). element (view y) (views (drop (i + 1) items))) (sym is)

pub views_done : (items : List Item) (i : ℕ) → length items ≤ i → views (drop i items) ≡ no_elements
views_done items i le = at_drop_all (λ (xs : List Item). views xs) items i le

-- ---- the nesting depth of the elements

deeper : (greatest deepest one others all now : ℕ) → all ≡ max one others → now ≡ max deepest (min one greatest) → max now (min others greatest) ≡ max deepest (min all greatest)
deeper greatest deepest one others all now is now_is = omega arith

pub next_nested : (items : List Item) (i : ℕ) (x : Item) (greatest deepest nested now total : ℕ) → i < length items → x ≡ get_or items i x → nested ≡ min (nest (view x)) greatest → now ≡ max deepest nested
    → max deepest (min (nest_of_elements (views (drop i items))) greatest) ≡ total → max now (min (nest_of_elements (views (drop (i + 1) items))) greatest) ≡ total
next_nested items i x greatest deepest nested now total lt x_is is now_is so_far =
    deeper greatest deepest (nest (view x)) (nest_of_elements (views (drop (i + 1) items))) (nest_of_elements (views (drop i items))) now
    (ap (λ es. nest_of_elements es) (views_from items i x lt x_is)) (now_is ∙ ap (max deepest) is) ∙ so_far

-- ---- copying elements in order

pub next_copied : (copies items now : List Item) (i : ℕ) (copy x : Item) → now ≡ copies ++ copy ∷ [] → view copy ≡ view x → x ≡ get_or items i x → i < length items → map view copies ≡ map view (take i items)
    → map view now ≡ map view (take (i + 1) items)
next_copied copies items now i copy x now_is same x_is lt before =
    let one : map view (copy ∷ []) ≡ map view (get_or items i x ∷ []) = ap (λ (v : Value). v ∷ []) (same ∙ ap view x_is) in
    ap (map view) now_is ∙ map-append view copies (copy ∷ []) ∙ ap (λ vs. vs ++ map view (copy ∷ [])) before ∙ ap (λ vs. map view (take i items) ++ vs) one
    ∙ sym (map-append view (take i items) (get_or items i x ∷ [])) ∙ sym (ap (map view) (take_more items i x lt))

pub all_copied : (copies items : List Item) (i : ℕ) → map view copies ≡ map view (take i items) → length items ≤ i → views copies ≡ views items
all_copied copies items i same le = ap elements_of same ∙ ap views (take_all i items le)

-- ---- items of values

-- The item represents the values that it was made of.
pub made_as : {X E : Type 0} (make : Vec X Global → Item) (form : List X → Values) → ((v : Vec X Global) → view (make v) ≡ values (form v.items))
    → (xs : List X) (w : Value) (read : Result (Vec X Global) E) (made : Result Item E) → w ≡ values (form xs) → IfOk read (λ v. v.items ≡ xs)
    → MatchResult read (λ v. IsOkAnd made (λ item. item ≡ make v)) (λ e. made ≡ Err e) → IfOk made (λ item. view item ≡ w)
made_as make form shown xs w (Ok v) (Ok item) w_is same is = ap view is ∙ shown v ∙ ap (λ ys. values (form ys)) same ∙ sym w_is
made_as make form shown xs w (Ok v) (Err e) w_is same is = tt
made_as make form shown xs w (Err e) (Ok item) w_is same is = absurd cc
made_as make form shown xs w (Err e) (Err f) w_is same is = tt
