use Rattle.std.proofs.Common.{length, ◌-◌, ◌≤◌, take}
use Rattle.std.specs.Prelude.{All}
use Rattle.hsms_log.specs.LineFormat.{IsEntry}
use Rattle.hsms_ends.proofs.output.entries_are_in_range.Given as goal

-- The entries processed so far are in range.
abbrev pub invariant-loop-place : goal.invariant-loop-place
invariant-loop-place l = (l.place ≤ length l.entries) × All IsEntry (take l.place l.entries)

abbrev pub decreases-loop-place : goal.decreases-loop-place
decreases-loop-place l = length l.entries - l.place
