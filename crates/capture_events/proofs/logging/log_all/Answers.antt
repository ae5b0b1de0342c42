use Rattle.std.proofs.Common.{◌≡◌, ◌∷◌, [], None, List, length, vec_len, rules, subst, ◌∙◌}
use Rattle.std.proofs.lemmas.Iterator.Adapters.{YieldsList-from_vec}
use Rattle.std.proofs.lemmas.Iterator.Consumers.{YieldsList-so_far, YieldsList-turn, YieldsList-end}
use Rattle.capture_tcp.specs.declared.events.TimedEvent.{TimedEvent}
use Rattle.capture_events.specs.InnerLoggedEvents.{LogsBy}
use Rattle.capture_events.proofs.LoggedMore.{logs_none, logs_more, logs_none_of, logs_stopped}
use Rattle.capture_events.proofs.Lists.{all_yielded, taken_apart}
use Rattle.capture_events.proofs.logging.log_all.Goals as goal

pub loop-timed_event-init : goal.loop-timed_event-init
loop-timed_event-init c = record { so_far = logs_none c.args.max c.args.bare_resets.now c.args.pair.now c.args.events.now.items }

pub loop-timed_event-preserved : goal.loop-timed_event-preserved
loop-timed_event-preserved c = record {
  so_far = logs_more c.args.max c.args.bare_resets.now c.args.pair.now c.loop-timed_event.yielded (c.in-Some.timed_event ∷ []) None _ _ _ c.loop-timed_event.invariant.so_far
      (logs_none_of c.args.max c.args.bare_resets.now c.args.pair.now (c.in-Some.timed_event ∷ []) c.in_ok-over.over _ _ c.if-is_some.ensures c.in_ok-over.ensures);
}

pub returns-then-is_some : goal.returns-then-is_some
returns-then-is_some c =
    let len : vec_len c.args.emitted ≡ length c.args.emitted.items = search rules in
    let all = YieldsList-from_vec {s = c.into_iter-timed_event-iterator.result} c.args.emitted.items c.into_iter-timed_event-iterator.ensures.into_iter_gives.0 (c.into_iter-timed_event-iterator.ensures.into_iter_gives.1 ∙ len) in
    let turn = YieldsList-turn all c.loop-timed_event.yielded c.loop-timed_event.timed_event-iterator c.loop-timed_event.yielded_by c.next.result c.next.new.self c.in-Some.timed_event
    c.in-Some.is c.next.ensures.steps in
    let front = YieldsList-so_far all c.loop-timed_event.yielded c.loop-timed_event.timed_event-iterator c.loop-timed_event.yielded_by in
    logs_stopped c.args.max c.args.bare_resets.now c.args.pair.now c.loop-timed_event.yielded _ c.args.emitted.items c.in-Some.timed_event c.in_ok-over.over _ _ _
    (taken_apart c.args.emitted.items c.loop-timed_event.yielded c.in-Some.timed_event front turn.0 turn.1) c.if-is_some.ensures c.loop-timed_event.invariant.so_far c.in_ok-over.ensures

pub returns : goal.returns
returns c =
    let len : vec_len c.args.emitted ≡ length c.args.emitted.items = search rules in
    let all = YieldsList-from_vec {s = c.into_iter-timed_event-iterator.result} c.args.emitted.items c.into_iter-timed_event-iterator.ensures.into_iter_gives.0 (c.into_iter-timed_event-iterator.ensures.into_iter_gives.1 ∙ len) in
    let front = YieldsList-so_far all c.loop-timed_event.yielded c.loop-timed_event.timed_event-iterator c.loop-timed_event.yielded_by in
    let end = YieldsList-end all c.loop-timed_event.yielded c.loop-timed_event.timed_event-iterator c.loop-timed_event.yielded_by c.next.result c.next.new.self c.in-None.is c.next.ensures.steps in
    subst (λ (hs : List TimedEvent). LogsBy c.args.max c.args.bare_resets.now c.args.pair.now hs None c.args.events.now.items c.loop-timed_event.events.items)
    (all_yielded c.args.emitted.items c.loop-timed_event.yielded front end.1) c.loop-timed_event.invariant.so_far
