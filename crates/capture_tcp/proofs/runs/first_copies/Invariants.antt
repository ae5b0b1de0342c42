use Rattle.std.proofs.Common.{◌≡◌, ◌+◌, ◌++◌, ℕ, length}
use Rattle.capture_tcp.specs.InnerRuns.{AreApart, first_copies}
use Rattle.capture_tcp.proofs.runs.first_copies.Given as goal

abbrev pub invariant-loop-cell : goal.invariant-loop-cell
invariant-loop-cell l =
    ((high : ℕ) → AreApart 0 high l.runs.items → l.copies.items ++ first_copies l.runs.items l.place l.rest ≡ first_copies l.runs.items l.fn.place l.cells)
    × (l.place + length l.rest ≡ l.fn.place + length l.cells)

abbrev pub decreases-loop-cell : goal.decreases-loop-cell
decreases-loop-cell l = length l.rest
