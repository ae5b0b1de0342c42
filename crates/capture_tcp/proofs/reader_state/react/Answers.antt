use Rattle.std.proofs.Common.{refl}
use Rattle.capture_tcp.specs.declared.reader_state.Reading.{Reading}
use Rattle.capture_tcp.proofs.SettledEvents.{reacts}
use Rattle.capture_tcp.proofs.Timing.{reacted}
use Rattle.capture_tcp.proofs.reader_state.react.Goals as goal

pub returns-clause-emitted : goal.returns-clause-emitted
returns-clause-emitted c =
    let mid = c.arrive.new.reading in
    let some : Reading = record { losses = c.take.new.self; emitter = mid.emitter; due = mid.due; differs = mid.differs } in
    reacts c.take.result c.args.arrival c.args.octets.now c.args.freed.now c.args.reading.now mid some c.go_on.new.reading c.args.emitted.now.items c.go_on.new.emitted.items
    c.in_ok-lost.lost c.in_ok-go_on.field-0 c.in_ok-arrive.ensures.known c.in_ok-lost.was c.take.ensures.none c.take.ensures.lost refl refl refl c.in_ok-go_on.ensures.emitted

pub returns-clause-times : goal.returns-clause-times
returns-clause-times c =
    let mid = c.arrive.new.reading in
    let some : Reading = record { losses = c.take.new.self; emitter = mid.emitter; due = mid.due; differs = mid.differs } in
    reacted c.args.arrival.packet c.args.reading.now some c.go_on.new.reading c.args.emitted.now.items c.go_on.new.emitted.items c.in_ok-arrive.ensures.times c.in_ok-go_on.ensures.times
