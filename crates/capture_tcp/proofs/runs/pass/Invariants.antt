use Rattle.std.specs.VecDeque.{deque_len}
use Rattle.capture_tcp.specs.InnerRuns.{KeepsFrom}
use Rattle.capture_tcp.proofs.runs.pass.Given as goal

abbrev pub invariant-loop-run : goal.invariant-loop-run
invariant-loop-run l = KeepsFrom l.first l.fn.runs.items l.runs.items

abbrev pub decreases-loop-run : goal.decreases-loop-run
decreases-loop-run l = deque_len l.runs
