use Rattle.std.proofs.Common.{◌*◌, ◌+◌, map}
use Rattle.secs_item.specs.Item.{view}
use Rattle.secs_item.specs.InnerDecoding.{item_at}
use Rattle.secs_item.proofs.Building.{IsBuilding}
use Rattle.secs_item.proofs.decode.+build.Given as goal

abbrev pub decreases-build_item : goal.decreases-build_item
decreases-build_item l = 2 * l.depth

abbrev pub decreases-build_elements : goal.decreases-build_elements
decreases-build_elements l = 2 * l.depth + 1

abbrev pub invariant-build_elements-loop : goal.invariant-build_elements-loop
invariant-build_elements-loop l = IsBuilding (item_at l.depth) l.octets l.place l.count l.counter l.end (map view l.elements.items)
