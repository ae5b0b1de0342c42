use Rattle.std.proofs.Common.{◌<◌, ◌≤◌, ◌-◌, length}
use Rattle.capture_tcp.specs.InnerRuns.{CellRun, HasAt, IfAt}
use Rattle.capture_tcp.proofs.runs.place_after.Given as goal

abbrev pub invariant-loop-low : goal.invariant-loop-low
invariant-loop-low l =
    (0 < l.low → HasAt (λ (q : CellRun). q.at ≤ l.place) l.runs.items (l.low - 1)) × IfAt (λ (q : CellRun). l.place < q.at) l.runs.items l.high
    × (l.low ≤ l.high) × (l.high ≤ length l.runs.items)

abbrev pub decreases-loop-low : goal.decreases-loop-low
decreases-loop-low l = l.high - l.low
