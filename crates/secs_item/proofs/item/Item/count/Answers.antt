use Rattle.std.proofs.Common.{◌≡◌, ap, ◌∙◌, arith}
use Rattle.secs_item.specs.Item.{list, view}
use Rattle.secs_item.specs.InnerItem.{views}
use Rattle.secs_item.proofs.Views.{view-List}
use Rattle.secs_item.proofs.ShortestEncodings.{count-views}
use Rattle.secs_item.proofs.item.Item.count.Goals as goal

pub returns-in-List : goal.returns-in-List
returns-in-List c =
    let items = c.in-List.elements.items in
    let view_is : view c.args.self.now ≡ list (views items) = ap view c.in-List.is ∙ view-List c.in-List.elements in
    rw view_is (omega (arith, count-views items, c.in-List.elements.ok.0, c.len.ensures))
