use Rattle.std.proofs.Common.{refl}
use Rattle.capture_tcp.specs.KnownStreams.{bases}
use Rattle.capture_events.proofs.NextSegment.{tracked_first}
use Rattle.capture_events.proofs.tracked_connection.track.Goals as goal

pub returns : goal.returns
returns c = λ most. tracked_first most (bases c.args.active c.args.passive) _ c.new.ensures.«open» c.new.ensures.emitted c.new.ensures.times c.new-2.ensures.items refl
