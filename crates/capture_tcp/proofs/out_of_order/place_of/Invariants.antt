use Rattle.std.proofs.Common.{◌≤◌, ◌-◌}
use Rattle.std.specs.VecDeque.{deque_len}
use Rattle.capture_tcp.proofs.AfterOffsets.{AreBefore}
use Rattle.capture_tcp.proofs.out_of_order.place_of.Given as goal

abbrev pub invariant-loop-other : goal.invariant-loop-other
invariant-loop-other l = (l.index ≤ deque_len l.queue) × AreBefore l.packet l.index l.queue.items

abbrev pub decreases-loop-other : goal.decreases-loop-other
decreases-loop-other l = deque_len l.queue - l.index
