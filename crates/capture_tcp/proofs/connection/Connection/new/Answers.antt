use Rattle.std.proofs.Common.{refl, None, false}
use Rattle.capture_tcp.specs.declared.reader_state.Reading.{Reading}
use Rattle.capture_tcp.specs.declared.emitter.Emitter.{Emitter}
use Rattle.capture_tcp.specs.declared.events.EmitterState.TheVariants as emitter_state
use Rattle.capture_tcp.specs.KnownStreams.{bases}
use Rattle.capture_tcp.proofs.Connecting.{begins}
use Rattle.capture_tcp.proofs.MonotonicTimes.{begins_in_time}
use Rattle.capture_tcp.proofs.connection.Connection.new.Goals as goal

pub returns-clause-emitted : goal.returns-clause-emitted
returns-clause-emitted c =
    let t : Emitter = record {
      streams = record { active = record { held = c.new.result; place = 0 }; passive = record { held = c.new-2.result; place = 0 } };
      emitter_state = emitter_state.Waiting None;
      opened = false;
    } in
    let r : Reading = record { losses = c.new-3.result; emitter = t; due = c.new-4.result; differs = None } in
    begins c.new-5.result r c.new.result c.new-2.result (bases c.args.active c.args.passive) c.new-5.ensures c.new-3.ensures
    c.new.ensures.place c.new.ensures.held c.new-2.ensures.place c.new-2.ensures.held c.new-4.ensures.items refl refl

pub returns-clause-times : goal.returns-clause-times
returns-clause-times c =
    let t : Emitter = record {
      streams = record { active = record { held = c.new.result; place = 0 }; passive = record { held = c.new-2.result; place = 0 } };
      emitter_state = emitter_state.Waiting None;
      opened = false;
    } in
    let r : Reading = record { losses = c.new-3.result; emitter = t; due = c.new-4.result; differs = None } in
    begins_in_time r (bases c.args.active c.args.passive) c.new-4.ensures.items
