use Rattle.std.proofs.Common.{◌≤◌, ◌-◌}
use Rattle.capture_midstream.specs.BufferedPacket.{midst}
use Rattle.capture_midstream.proofs.Unbroken.{UnbrokenSoFar}
use Rattle.capture_midstream.proofs.sync_search.unbroken.Given as goal

-- no octet is missing from the place on
abbrev pub invariant-loop-place : goal.invariant-loop-place
invariant-loop-place l = (l.low ≤ l.place) × (l.place ≤ midst) × UnbrokenSoFar l.held l.low l.place

abbrev pub decreases-loop-place : goal.decreases-loop-place
decreases-loop-place l = l.place - l.low
