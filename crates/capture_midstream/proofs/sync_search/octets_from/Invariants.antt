use Rattle.std.proofs.Common.{◌≡◌, ◌≤◌, ◌-◌, ◌⊎◌, length}
use Rattle.capture_midstream.proofs.Found.{GivesSoFar}
use Rattle.capture_midstream.proofs.sync_search.octets_from.Given as goal

-- the octets so far, and those that are left
abbrev pub invariant-loop-at : goal.invariant-loop-at
invariant-loop-at l =
    (l.place ≤ l.at) × (length l.octets.items ≤ l.at - l.place) × ((l.at ≤ l.upto) ⊎ (l.at ≡ l.place)) × GivesSoFar l.held l.upto l.place l.octets.items l.at

abbrev pub decreases-loop-at : goal.decreases-loop-at
decreases-loop-at l = l.upto - l.at
