-- Items as values.
use Rattle.std.proofs.Common.{◌≡◌, ℕ, suc, List, [], ◌∷◌, length, refl, ap, ◌++◌, ◌∙◌, sym, append_assoc, append-nil, codes, ◌+◌, ◌<◌, get_or, take, subst}
use Rattle.std.proofs.lemmas.List.{take_more}
use Rattle.secs_item.specs.Item.{view, count, element, with_element}
use Rattle.secs_item.specs.InnerItem.{views}
use Rattle.secs_text.specs.InRange.{AllHeld, IsHeld}
use Rattle.secs_text.specs.Printed.{printed_elements, printed_item}
use Rattle.secs_text.specs.View.{content, contents}
use Rattle.secs_text.specs.declared.message.Message.{Message}
use Rattle.secs_item.specs.declared.item.Item.{Item}

pub count_views : (items : List Item) → count (views items) ≡ length items
count_views [] = refl
count_views (i ∷ items) = ap suc (count_views items)

-- The printed form of one more element.
pub printed_push : (items : List Item) (item : Item) → printed_elements (views (items ++ item ∷ [])) ≡ printed_elements (views items) ++ (codes " " ++ printed_item (view item))
printed_push [] item = ap (λ o. codes " " ++ o) (append-nil (printed_item (view item)))
printed_push (i ∷ items) item = ap (λ o. codes " " ++ printed_item (view i) ++ o) (printed_push items item) ∙ sym (append_assoc (codes " " ++ printed_item (view i)) (printed_elements (views items)) _)

held_push : (items : List Item) (item : Item) → AllHeld (views items) → IsHeld (view item) → AllHeld (views (items ++ item ∷ []))
held_push [] item all one = (one.0, one.1, tt)
held_push (i ∷ items) item all one = (all.0, all.1, held_push items item all.2 one)

pub held_continues : (items : List Item) (i : ℕ) (item : Item) → i < length items → item ≡ get_or items i item → AllHeld (views (take i items)) → IsHeld (view item) → AllHeld (views (take (i + 1) items))
held_continues items i item lt is all one =
    let more : take (i + 1) items ≡ take i items ++ item ∷ [] = take_more items i item lt ∙ ap (λ x. take i items ++ x ∷ []) (sym is) in
    let P : List Item → Type 0 = λ o. AllHeld (views o) in
    subst P (sym more) (held_push (take i items) item all one)

pub views_push : (items : List Item) (item : Item) → views (items ++ item ∷ []) ≡ with_element (views items) (view item)
views_push [] item = refl
views_push (i ∷ items) item = ap (λ es. element (view i) es) (views_push items item)

pub contents_push : (ms : List Message) (m : Message) → contents (ms ++ m ∷ []) ≡ contents ms ++ content m ∷ []
contents_push [] m = refl
contents_push (n ∷ ms) m = ap (λ o. content n ∷ o) (contents_push ms m)
