use Rattle.std.proofs.Common.{rules, sym, ap, ◌∙◌}
use Rattle.secs_item.specs.Item.{view, list}
use Rattle.secs_item.specs.InnerItem.{views}
use Rattle.secs_item.proofs.Views.{view-List, next_copied, all_copied}
use Rattle.secs_item.proofs.Variants.{is_no_list}
use Rattle.secs_item.proofs.item.Item.+copy.Goals as goal

pub copy_values-requires : goal.copy_values-requires
copy_values-requires t c = is_no_list c.args.self.now c.in_default.not-List

pub returns-in_default : goal.returns-in_default
returns-in_default t c = c.copy_values.ensures

pub returns : goal.returns
returns t c =
    view-List c.loop-element.copies ∙ ap list (all_copied c.loop-element.copies.items c.deref-element-items.result.now c.loop-element.element-index c.loop-element.invariant c.loop-element-test.false ∙ ap views c.deref-element-items.ensures.value) ∙ sym (view-List c.in-List.elements) ∙ sym (ap view c.in-List.is)

pub loop-element-preserved : goal.loop-element-preserved
loop-element-preserved t c = search (rules, next_copied)
