use Rattle.std.proofs.Common.{◌≡◌, max, min, drop}
use Rattle.secs_item.specs.Item.{nest_of_elements}
use Rattle.secs_item.specs.InnerItem.{views}
use Rattle.secs_item.proofs.item.+nesting.Given as goal

abbrev pub invariant-loop-element : goal.invariant-loop-element
invariant-loop-element l =
    max l.deepest (min (nest_of_elements (views (drop l.element-index l.element-items))) 18446744073709551615) ≡ min (nest_of_elements (views l.element-items)) 18446744073709551615
