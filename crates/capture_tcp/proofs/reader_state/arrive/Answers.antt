use Rattle.std.proofs.Common.{refl}
use Rattle.capture_tcp.specs.declared.reader_state.Reading.{Reading}
use Rattle.capture_tcp.specs.declared.emitter.Emitter.{Emitter}
use Rattle.capture_tcp.proofs.Arriving.{arrived}
use Rattle.capture_tcp.proofs.Timing.{queued}
use Rattle.capture_tcp.proofs.reader_state.arrive.Goals as goal

pub returns-clause-known : goal.returns-clause-known
returns-clause-known c =
    let old = c.args.reading.now in
    let emitter : Emitter = record { streams = c.bring_to.new.streams; emitter_state = old.emitter.emitter_state; opened = old.emitter.opened } in
    let new : Reading = record { losses = old.losses; emitter = emitter; due = c.queue.new.due; differs = c.first_different-reading.result } in
    arrived c.args.arrival c.args.octets.now c.args.freed.now old new c.in_ok-differs.differs c.in_ok-differs.ensures.held refl refl refl
    c.first_different-reading.ensures c.in_ok-queue.ensures

pub returns-clause-times : goal.returns-clause-times
returns-clause-times c =
    queued c.args.arrival.packet c.args.arrival.from c.args.freed.now c.args.reading.now.due.items c.queue.new.due.items c.in_ok-queue.ensures
