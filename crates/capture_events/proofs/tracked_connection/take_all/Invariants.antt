use Rattle.capture_events.proofs.NextSegment.{SoFar}
use Rattle.capture_events.proofs.tracked_connection.take_all.Given as goal

abbrev pub invariant-loop-packet : goal.invariant-loop-packet
invariant-loop-packet l = record {
  so_far : SoFar l.fn.max l.fn.pair l.fn.waiting.items l.fn.tracked l.yielded l.left l.initial.events.items l.events.items;
}
