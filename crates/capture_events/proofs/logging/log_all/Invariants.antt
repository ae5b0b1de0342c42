use Rattle.std.proofs.Common.{None}
use Rattle.capture_events.specs.InnerLoggedEvents.{LogsBy}
use Rattle.capture_events.proofs.logging.log_all.Given as goal

abbrev pub invariant-loop-timed_event : goal.invariant-loop-timed_event
invariant-loop-timed_event l = record {
  so_far : LogsBy l.fn.max l.fn.bare_resets l.fn.pair l.yielded None l.initial.events.items l.events.items;
}
