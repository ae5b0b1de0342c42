use Rattle.std.proofs.Common.{◌≤◌, ◌+◌, vec_len, vec_capacity}
use Rattle.std.specs.VecDeque.{deque_len}
use Rattle.capture_tcp.proofs.Draining.{Keeps}
use Rattle.capture_tcp.proofs.out_of_order.free.Given as goal

abbrev pub invariant-loop-packet : goal.invariant-loop-packet
invariant-loop-packet l =
    (vec_len l.emitted + deque_len l.queue ≤ vec_capacity l.emitted)
    × Keeps l.fn.end l.fn.acknowledged l.fn.queue.items l.fn.emitted.items l.end l.acknowledged l.queue.items l.emitted.items

abbrev pub decreases-loop-packet : goal.decreases-loop-packet
decreases-loop-packet l = deque_len l.queue
