use Rattle.std.proofs.Common.{◌≡◌, true, false, Bool, subst}
use Rattle.capture_tcp.specs.InnerEmitted.{Drains}
use Rattle.capture_tcp.proofs.Awaited.{before_emitted, reset_emitted}
use Rattle.capture_tcp.proofs.emitter.emit_before.Goals as goal

pub returns-then-branch-clause-emitted : goal.returns-then-branch-clause-emitted
returns-then-branch-clause-emitted c =
    let is : c.in_ok-drain.field-0 ≡ true = (let e = c.if-branch.true in cc) in
    reset_emitted c.args.limit c.args.due.now.items c.drain.new.due.items c.args.emitter.now c.drain.new.emitter c.args.emitted.now.items c.drain.new.emitted.items
    (subst (λ (b : Bool). Drains c.args.limit c.args.due.now.items c.args.emitter.now c.args.emitted.now.items c.drain.new.due.items c.drain.new.emitter c.drain.new.emitted.items b)
    is c.in_ok-drain.ensures.emitted)

pub returns-clause-emitted : goal.returns-clause-emitted
returns-clause-emitted c =
    let is : c.in_ok-drain.field-0 ≡ false = (let e = c.if-branch.false in cc) in
    before_emitted c.args.limit c.args.due.now.items c.drain.new.due.items c.args.emitter.now c.drain.new.emitter c.args.emitted.now.items c.drain.new.emitted.items c.is_over.result
    (subst (λ (b : Bool). Drains c.args.limit c.args.due.now.items c.args.emitter.now c.args.emitted.now.items c.drain.new.due.items c.drain.new.emitter c.drain.new.emitted.items b)
    is c.in_ok-drain.ensures.emitted)
    (c.in_ok-drain.ensures.back is) c.is_over.ensures
