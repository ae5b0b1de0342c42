use Rattle.std.proofs.Common.{◌≡◌, true, false, Bool, subst, sym}
use Rattle.capture_tcp.specs.InnerReaderState.{EmitsBefore}
use Rattle.capture_tcp.specs.InnerEndOfStream.{Finishes}
use Rattle.capture_tcp.specs.declared.ending.Ending.{Ending}
use Rattle.capture_tcp.proofs.Finishing.{closed_ends, open_ends}
use Rattle.capture_tcp.proofs.ending.finish.Goals as goal

pub returns-then-branch-clause-emitted : goal.returns-then-branch-clause-emitted
returns-then-branch-clause-emitted c =
    let is : c.in_ok-emit_before.field-0 ≡ true = (let e = c.if-branch.true in cc) in
    closed_ends c.args.lost c.args.differs c.least.result c.args.emitter.now c.emit_before.new.emitter c.args.due.now.items c.emit_before.new.due.items
    c.args.emitted.now.items c.emit_before.new.emitted.items c.least.ensures
    (subst (λ (b : Bool). EmitsBefore c.least.result c.args.emitter.now c.args.due.now.items c.args.emitted.now.items c.emit_before.new.emitter c.emit_before.new.due.items
    c.emit_before.new.emitted.items b) is c.in_ok-emit_before.ensures.emitted)

pub returns-clause-emitted : goal.returns-clause-emitted
returns-clause-emitted c =
    let is : c.in_ok-emit_before.field-0 ≡ false = (let e = c.if-branch.false in cc) in
    subst (λ (e : Ending). Finishes c.args.lost c.args.differs c.args.emitter.now c.args.due.now.items c.args.emitted.now.items c.emit_before.new.emitted.items e) (sym c.broken.ensures)
    (open_ends c.args.lost c.args.differs c.least.result c.args.emitter.now c.emit_before.new.emitter c.args.due.now.items c.emit_before.new.due.items
    c.args.emitted.now.items c.emit_before.new.emitted.items c.least.ensures
    (subst (λ (b : Bool). EmitsBefore c.least.result c.args.emitter.now c.args.due.now.items c.args.emitted.now.items c.emit_before.new.emitter c.emit_before.new.due.items
    c.emit_before.new.emitted.items b) is c.in_ok-emit_before.ensures.emitted))
