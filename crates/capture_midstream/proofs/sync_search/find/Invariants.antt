use Rattle.std.proofs.Common.{◌≤◌, ◌-◌}
use Rattle.capture_midstream.proofs.Found.{NoneSoFar}
use Rattle.capture_midstream.proofs.sync_search.find.Given as goal

-- no message stands at the places so far
abbrev pub invariant-loop-place : goal.invariant-loop-place
invariant-loop-place l = (l.from ≤ l.place) × (l.place ≤ l.upto) × NoneSoFar l.session l.held l.from l.upto l.place

abbrev pub decreases-loop-place : goal.decreases-loop-place
decreases-loop-place l = l.upto - l.place
