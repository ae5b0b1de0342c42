use Rattle.std.proofs.Common.{◌≡◌, ◌≤◌, ◌+◌, ◌-◌, ◌++◌, take, drop}
use Rattle.std.specs.VecDeque.{deque_len}
use Rattle.capture_tcp.proofs.runs.remove_from.Given as goal

abbrev pub invariant-loop-left : goal.invariant-loop-left
invariant-loop-left l =
    (l.runs.items ≡ take l.index l.fn.runs.items ++ drop (l.index + (l.count - l.left)) l.fn.runs.items) × (l.left ≤ l.count) × (l.index + l.left ≤ deque_len l.runs)

abbrev pub decreases-loop-left : goal.decreases-loop-left
decreases-loop-left l = l.left
