use Rattle.secs_item.proofs.Views.{next_nested}
use Rattle.secs_item.proofs.item.+nesting.Goals as goal

pub loop-element-preserved : goal.loop-element-preserved
loop-element-preserved t c =
    next_nested c.deref-element-items.result.now c.loop-element.element-index c.element-item.result _ c.loop-element.deepest c.nesting.result c.max-deepest.result _ c.loop-element-test.true c.element-item.is c.nesting.ensures c.max-deepest.ensures c.loop-element.invariant
