use Rattle.std.proofs.Common.{◌≡◌, length, vec_len, List, ℕ, rules, subst, ◌∙◌}
use Rattle.std.proofs.lemmas.Iterator.Adapters.{YieldsList-from_vec}
use Rattle.std.proofs.lemmas.Iterator.Consumers.{YieldsList-so_far, YieldsList-turn, YieldsList-end}
use Rattle.capture_tcp.specs.KnownStreams.{seen_of}
use Rattle.capture_events.specs.InnerTrackedConnection.{TakesTracked}
use Rattle.capture_events.proofs.Lists.{all_yielded, taken_apart}
use Rattle.capture_events.proofs.NextSegment.{all_taken, so_far_none, so_far_tracked, so_far_over}
use Rattle.capture_events.proofs.tracked_connection.take_all.Goals.{in-Some-left+in_ok-left-in-Some-left, in-None-left}
use Rattle.capture_events.proofs.tracked_connection.take_all.Goals as goal

pub loop-packet-init : goal.loop-packet-init
loop-packet-init c = record { so_far = so_far_none c.args.max c.args.pair.now c.args.waiting.items c.args.tracked c.args.events.now.items }

pub loop-packet-preserved : goal.loop-packet-preserved
loop-packet-preserved c =
    let x = c.in-Some.packet in
    let yielded = c.loop-packet.yielded in
    let len : vec_len c.args.waiting ≡ length c.args.waiting.items = search rules in
    let all = YieldsList-from_vec {s = c.into_iter-packet-iterator.result} c.args.waiting.items c.into_iter-packet-iterator.ensures.into_iter_gives.0
    (c.into_iter-packet-iterator.ensures.into_iter_gives.1 ∙ len) in
    let turn = YieldsList-turn all yielded c.loop-packet.packet-iterator c.loop-packet.yielded_by c.next.result c.next.new.self x c.in-Some.is
    c.next.ensures.steps in
    let front = YieldsList-so_far all yielded c.loop-packet.packet-iterator c.loop-packet.yielded_by in
    let whole = taken_apart c.args.waiting.items yielded x front turn.0 turn.1 in
    elim c.match-left.branch [
      | in-Some-left+in_ok-left-in-Some-left w ↦ record {
        so_far = rw (w.left-is, w.events-is) (so_far_tracked c.args.max c.args.pair.now c.args.waiting.items c.args.tracked w.in-Some-left.tracked yielded _ x c.loop-packet.left
            w.in_ok-left-in-Some-left.left c.args.events.now.items c.loop-packet.events.items w.take.new.events.items whole w.in-Some-left.is c.loop-packet.invariant.so_far
            (subst (λ (octets : List ℕ). TakesTracked c.args.max c.args.pair.now (seen_of x.segment octets) w.in-Some-left.tracked w.in_ok-left-in-Some-left.left c.loop-packet.events.items w.take.new.events.items)
            w.deref.ensures.value w.in_ok-left-in-Some-left.ensures));
      }
      | in-None-left w ↦ record {
        so_far = rw (w.left-is, w.events-is) (so_far_over c.args.max c.args.pair.now c.args.waiting.items c.args.tracked yielded x c.loop-packet.left c.args.events.now.items
            c.loop-packet.events.items w.in-None-left.is c.loop-packet.invariant.so_far);
      }
    ]

pub returns : goal.returns
returns c =
    let yielded = c.loop-packet.yielded in
    let len : vec_len c.args.waiting ≡ length c.args.waiting.items = search rules in
    let all = YieldsList-from_vec {s = c.into_iter-packet-iterator.result} c.args.waiting.items c.into_iter-packet-iterator.ensures.into_iter_gives.0
    (c.into_iter-packet-iterator.ensures.into_iter_gives.1 ∙ len) in
    let front = YieldsList-so_far all yielded c.loop-packet.packet-iterator c.loop-packet.yielded_by in
    let end = YieldsList-end all yielded c.loop-packet.packet-iterator c.loop-packet.yielded_by c.next.result c.next.new.self c.in-None.is c.next.ensures.steps in
    all_taken c.args.max c.args.pair.now c.args.waiting.items yielded c.args.tracked c.loop-packet.left c.args.events.now.items c.loop-packet.events.items
    (all_yielded c.args.waiting.items yielded front end.1) c.loop-packet.invariant.so_far
