use Rattle.std.proofs.Common.{List, [], subst}
use Rattle.capture_tcp.specs.declared.events.TimedEvent.{TimedEvent}
use Rattle.capture_tcp.specs.KnownStreams.{seen_of}
use Rattle.capture_tcp.specs.ReaderInvariant.{TakesOn}
use Rattle.capture_tcp.specs.Timestamps.{TakesInTime}
use Rattle.cli_capture.proofs.midstream_connection.opened.Goals as goal

pub returns-in-Ok-clause-opens : goal.returns-in-Ok-clause-opens
returns-in-Ok-clause-opens c =
    let s = seen_of c.args.segment [] in
    let next = c.in-Ok.connection in
    let emitted = c.take.new.emitted.items in (
      emitted,
      subst (λ (hs : List TimedEvent). TakesOn c.args.connection s hs next emitted) c.new-emitted.ensures.items c.in-Ok.ensures.emitted,
      subst (λ (hs : List TimedEvent). TakesInTime c.args.connection s hs next emitted) c.new-emitted.ensures.items c.in-Ok.ensures.times,
    )
