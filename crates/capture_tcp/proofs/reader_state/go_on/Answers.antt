use Rattle.std.proofs.Common.{refl}
use Rattle.capture_tcp.specs.declared.reader_state.Reading.{Reading}
use Rattle.capture_tcp.proofs.Arriving.{ok_weaker}
use Rattle.capture_tcp.proofs.SettledEvents.{lost_ends, none_lost}
use Rattle.capture_tcp.proofs.reader_state.go_on.Goals as goal

pub returns-in_default-clause-emitted : goal.returns-in_default-clause-emitted
returns-in_default-clause-emitted c =
    ok_weaker c.settle.result
    (λ r h. none_lost c.args.lost c.args.received c.args.reading.now c.settle.new.reading c.args.emitted.now.items c.settle.new.emitted.items r (let e = c.in_default.is in cc) h)
    c.settle.ensures.emitted

pub returns-clause-emitted : goal.returns-clause-emitted
returns-clause-emitted c =
    let old = c.args.reading.now in
    let new : Reading = record { losses = old.losses; emitter = c.finish.new.emitter; due = c.finish.new.due; differs = old.differs } in
    lost_ends c.in-Some.packet c.args.lost c.args.received old new c.args.emitted.now.items c.finish.new.emitted.items c.in_ok-ending.ending (let e = c.in-Some.is in cc) c.in_ok-ending.ensures.emitted refl
