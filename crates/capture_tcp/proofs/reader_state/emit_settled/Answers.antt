use Rattle.std.proofs.Common.{◌≡◌, true, false, Bool, refl, subst}
use Rattle.capture_tcp.specs.declared.reader_state.Reading.{Reading}
use Rattle.capture_tcp.specs.declared.emitter.Emitter.{Emitter}
use Rattle.capture_tcp.specs.InnerReaderState.{EmitsBefore}
use Rattle.capture_tcp.proofs.SettledEvents.{sure_closed, sure_open}
use Rattle.capture_tcp.proofs.reader_state.emit_settled.Goals as goal

pub returns-then-branch-clause-emitted : goal.returns-then-branch-clause-emitted
returns-then-branch-clause-emitted c =
    let is : c.in_ok-emit_before.field-0 ≡ true = (let e = c.if-branch.true in cc) in
    let old = c.args.reading.now in
    let next = c.emit_before.new.emitter in
    let new : Reading = record { losses = old.losses; emitter = next; due = c.emit_before.new.due; differs = old.differs } in
    sure_closed c.args.received old new next c.emit_before.new.due.items c.args.emitted.now.items c.emit_before.new.emitted.items c.first.result c.least-limit.result
    c.first.ensures.first c.least-limit.ensures
    (subst (λ (b : Bool). EmitsBefore c.least-limit.result old.emitter old.due.items c.args.emitted.now.items next c.emit_before.new.due.items c.emit_before.new.emitted.items b)
    is c.in_ok-emit_before.ensures.emitted) refl

pub returns-clause-emitted : goal.returns-clause-emitted
returns-clause-emitted c =
    let is : c.in_ok-emit_before.field-0 ≡ false = (let e = c.if-branch.false in cc) in
    let old = c.args.reading.now in
    let next = c.emit_before.new.emitter in
    let emitter : Emitter = record { streams = c.pass_both.new.streams; emitter_state = next.emitter_state; opened = next.opened } in
    let new : Reading = record { losses = old.losses; emitter = emitter; due = c.emit_before.new.due; differs = old.differs } in
    sure_open c.args.received old new next c.emit_before.new.due.items c.args.emitted.now.items c.emit_before.new.emitted.items c.first.result c.least-limit.result
    c.first.ensures.first c.least-limit.ensures
    (subst (λ (b : Bool). EmitsBefore c.least-limit.result old.emitter old.due.items c.args.emitted.now.items next c.emit_before.new.due.items c.emit_before.new.emitted.items b)
    is c.in_ok-emit_before.ensures.emitted)
    c.pass_both.ensures refl refl refl refl refl
