use Rattle.std.proofs.Common.{◌≡◌, true, false, List, subst, sym}
use Rattle.capture_tcp.specs.declared.streams.Due.{Due}
use Rattle.capture_tcp.specs.InnerEmitted.{Drains}
use Rattle.capture_tcp.specs.InnerTimestamps.{EmitsInTime}
use Rattle.capture_tcp.specs.DeliverySteps.{resets}
use Rattle.capture_tcp.proofs.LaterEvents.{drained_on}
use Rattle.capture_tcp.proofs.Timing.{emits_one}
use Rattle.capture_tcp.proofs.emitter.drain.Goals as goal

pub returns-then-is_reset-clause-emitted : goal.returns-then-is_reset-clause-emitted
returns-then-is_reset-clause-emitted c =
    let first = c.in-Some.ensures.some in
    let more = c.in_ok-is_reset.ensures in
    let is : true ≡ resets c.loop-first.emitter.opened c.in-Some.first = (let e = more.reset in let f = c.if-is_reset.true in cc) in
    drained_on c.args.limit c.args.due.now.items c.take_sure.new.due.items c.in-Some.first c.args.emitter.now c.loop-first.emitter c.emit_turn.new.emitter
    c.args.emitted.now.items c.loop-first.emitted.items c.emit_turn.new.emitted.items true
    (subst (λ (q : List Due). Drains c.args.limit c.args.due.now.items c.args.emitter.now c.args.emitted.now.items q c.loop-first.emitter c.loop-first.emitted.items false)
    first.0 c.loop-first.invariant.0) first.1 more.emitted more.opened is

pub returns-then-is_reset-clause-times : goal.returns-then-is_reset-clause-times
returns-then-is_reset-clause-times c =
    emits_one c.args.due.now.items c.loop-first.due.items c.take_sure.new.due.items c.in-Some.first c.args.emitted.now.items c.loop-first.emitted.items c.emit_turn.new.emitted.items
    c.loop-first.invariant.1 c.in-Some.ensures.some.0 c.in_ok-is_reset.ensures.times

pub loop-first-preserved : goal.loop-first-preserved
loop-first-preserved c =
    let first = c.in-Some.ensures.some in
    let more = c.in_ok-is_reset.ensures in
    let is : false ≡ resets c.loop-first.emitter.opened c.in-Some.first = (let e = more.reset in let f = c.if-is_reset.false in cc) in (
      drained_on c.args.limit c.args.due.now.items c.take_sure.new.due.items c.in-Some.first c.args.emitter.now c.loop-first.emitter c.emit_turn.new.emitter
          c.args.emitted.now.items c.loop-first.emitted.items c.emit_turn.new.emitted.items false
          (subst (λ (q : List Due). Drains c.args.limit c.args.due.now.items c.args.emitter.now c.args.emitted.now.items q c.loop-first.emitter c.loop-first.emitted.items false)
          first.0 c.loop-first.invariant.0) first.1 more.emitted more.opened is,
      emits_one c.args.due.now.items c.loop-first.due.items c.take_sure.new.due.items c.in-Some.first c.args.emitted.now.items c.loop-first.emitted.items c.emit_turn.new.emitted.items
          c.loop-first.invariant.1 first.0 more.times,
    )

pub returns-clause-times : goal.returns-clause-times
returns-clause-times c =
    subst (λ (q : List Due). EmitsInTime c.args.due.now.items c.args.emitted.now.items q c.loop-first.emitted.items) (sym c.in_default.ensures.none.0) c.loop-first.invariant.1
