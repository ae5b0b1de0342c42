use Rattle.capture_tcp.specs.declared.reader_state.Reading.{Reading}
use Rattle.std.proofs.Common.{◌≡◌, false, refl}
use Rattle.capture_tcp.specs.PacketArrival.{breaks_sure}
use Rattle.capture_tcp.specs.Losses.{first_of}
use Rattle.capture_tcp.proofs.Arriving.{ok_weaker}
use Rattle.capture_tcp.proofs.SettledEvents.{differs_ends}
use Rattle.capture_tcp.proofs.reader_state.settle.Goals as goal

pub returns-then-breaks_surely-clause-emitted : goal.returns-then-breaks_surely-clause-emitted
returns-then-breaks_surely-clause-emitted c =
    let old = c.args.reading.now in
    let new : Reading = record { losses = old.losses; emitter = c.finish.new.emitter; due = c.finish.new.due; differs = old.differs } in
    differs_ends c.first-first.result c.args.received old new c.args.emitted.now.items c.finish.new.emitted.items c.in_ok-ending.ending c.first-first.ensures.first
    (let e = c.breaks_surely.ensures in let f = c.if-breaks_surely.true in cc) c.in_ok-ending.ensures.emitted refl

pub returns-clause-emitted : goal.returns-clause-emitted
returns-clause-emitted c =
    let old = c.args.reading.now in
    let unbroken : breaks_sure (first_of old.losses) old.differs ≡ false =
    (let e = c.breaks_surely.ensures in let f = c.if-breaks_surely.false in let g = c.first-first.ensures.first in cc) in
    ok_weaker c.emit_settled.result (λ r h. h unbroken) c.emit_settled.ensures.emitted
