-- The items that message handlers build.
use Rattle.std.proofs.Common.{◌≡◌, [], ◌∷◌, Vec, Global, ap, ◌∙◌}
use Rattle.secs_item.specs.Item.{Value, list, element, no_elements, view}
use Rattle.secs_item.specs.InnerItem.{views}
use Rattle.secs_item.specs.declared.item.Item.{Item, List as item_list}
use Rattle.secs_item.proofs.Views.{view-List}

-- A list of two elements.
pub list_of_two : (v : Vec Item Global) (a b : Item) (x y : Value) → v.items ≡ a ∷ b ∷ [] → view a ≡ x → view b ≡ y → view (item_list v) ≡ list (element x (element y no_elements))
list_of_two v a b x y is a_is b_is =
    view-List v ∙ ap (λ items. list (views items)) is
    ∙ ap (λ one. list (element one (element (view b) no_elements))) a_is ∙ ap (λ two. list (element x (element two no_elements))) b_is
