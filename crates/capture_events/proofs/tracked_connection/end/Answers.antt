use Rattle.std.proofs.Common.{◌&&◌, ◌++◌, Bool, map, ap, ◌∙◌}
use Rattle.capture_events.specs.declared.event.Event.TheVariants.{Logged}
use Rattle.capture_events.specs.ConnectionItems.{down_if}
use Rattle.capture_events.proofs.Lists.{none_is}
use Rattle.capture_events.proofs.NextSegment.{ends_ok}
use Rattle.capture_events.proofs.tracked_connection.end.Goals as goal

pub returns : goal.returns
returns c =
    ends_ok c.conclude.result c.args.pair.now c.args.is_replaced c.args.missing c.args.tracked c.new-emitted.result.items c.end.new.emitted.items c.in-Ok.ending
    c.shortfall_of-shortfall.result c.args.events.now.items c.go_down_if.new.events.items c.conclude.new.events.items c.new-emitted.ensures.items c.in-Ok.ensures.emitted c.shortfall_of-shortfall.ensures
    (c.in_ok-go_down_if.ensures ∙ ap (λ (b : Bool). c.args.events.now.items ++ map (Logged c.args.pair.now) (down_if b))
    (c.all.ensures ∙ ap (λ (b : Bool). c.args.is_replaced && (b && c.args.tracked.is_up)) (none_is c.shortfall_of-shortfall.result c.is_none.result c.is_none.ensures))) c.conclude.ensures
