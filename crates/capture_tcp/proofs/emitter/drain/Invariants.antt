use Rattle.std.proofs.Common.{false}
use Rattle.std.specs.VecDeque.{deque_len}
use Rattle.capture_tcp.specs.InnerEmitted.{Drains}
use Rattle.capture_tcp.specs.InnerTimestamps.{EmitsInTime}
use Rattle.capture_tcp.proofs.emitter.drain.Given as goal

abbrev pub invariant-loop-first : goal.invariant-loop-first
invariant-loop-first l =
    Drains l.limit l.fn.due.items l.fn.emitter l.fn.emitted.items l.due.items l.emitter l.emitted.items false × EmitsInTime l.fn.due.items l.fn.emitted.items l.due.items l.emitted.items

abbrev pub decreases-loop-first : goal.decreases-loop-first
decreases-loop-first l = deque_len l.due
