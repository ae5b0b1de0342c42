use Rattle.std.proofs.Common.{◌<◌, ◌≤◌, ◌+◌, ◌-◌, length}
use Rattle.capture_tcp.specs.InnerRuns.{CellRun, end_of_run, HasAt}
use Rattle.capture_tcp.proofs.runs.count_within.Given as goal

abbrev pub invariant-loop-run : goal.invariant-loop-run
invariant-loop-run l =
    (0 < l.count → HasAt (λ (q : CellRun). end_of_run q ≤ l.end) l.runs.items (l.index + (l.count - 1))) × (l.index + l.count ≤ length l.runs.items)

abbrev pub decreases-loop-run : goal.decreases-loop-run
decreases-loop-run l = length l.runs.items - (l.index + l.count)
