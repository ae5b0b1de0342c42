use Rattle.std.proofs.Common.{◌≡◌, map, take}
use Rattle.secs_item.specs.Item.{view}
use Rattle.secs_item.proofs.item.Item.+copy.Given as goal

abbrev pub invariant-loop-element : goal.invariant-loop-element
invariant-loop-element l = map view l.copies.items ≡ map view (take l.element-index l.element-items)
