use Rattle.std.proofs.Common.{List, map, ap, subst, sym, ◌∙◌}
use Rattle.capture_events.specs.declared.waiting.Waiting.{Waiting}
use Rattle.capture_events.specs.declared.connection_state.ConnectionState.{ConnectionState}
use Rattle.capture_events.specs.ConnectionState.{EndsConnection}
use Rattle.capture_events.specs.ConnectionItems.{lost_by}
use Rattle.capture_events.specs.LoggedEvents.{seen_waiting}
use Rattle.capture_events.proofs.ConnectionStates.{end_tracked, end_over, end_waiting}
use Rattle.capture_events.proofs.connection_state.ConnectionState.end.Goals as goal

pub returns-in-Over : goal.returns-in-Over
returns-in-Over c = λ most number.
    subst (λ (st : ConnectionState). EndsConnection most c.args.pair.now number c.args.is_replaced c.args.missing st c.args.events.now.items c.args.events.now.items) (sym c.in-Over.is)
    (end_over most number c.args.pair.now c.args.is_replaced c.args.missing c.args.events.now.items)

pub returns-in-Tracked : goal.returns-in-Tracked
returns-in-Tracked c =
    end_tracked c.end.result c.args.pair.now c.args.is_replaced c.args.missing c.in-Tracked.tracked c.args.self c.args.events.now.items c.end.new.events.items c.in-Tracked.is c.end.ensures

pub returns-in-Opening : goal.returns-in-Opening
returns-in-Opening c =
    end_waiting c.conclude.result c.args.pair.now c.args.is_replaced c.args.missing c.in-Opening.waiting c.args.self c.lost_by.result c.args.events.now.items
    c.conclude.new.events.items c.in-Opening.is (c.lost_by.ensures ∙ ap (λ (ws : List Waiting). lost_by (map seen_waiting ws)) c.deref.ensures.value) c.conclude.ensures
