use Rattle.std.proofs.Common.{◌≡◌, drop}
use Rattle.std.specs.Prelude.{is_some}
use Rattle.secs_item.specs.InnerItem.{views}
use Rattle.secs_item.specs.ShortestEncoding.{short_elements}
use Rattle.secs_item.proofs.encoding.+has_encoding.Given as goal

abbrev pub invariant-loop-element : goal.invariant-loop-element
invariant-loop-element l =
    is_some (short_elements (views (drop l.element-index l.element-items))) ≡ is_some (short_elements (views l.element-items))
