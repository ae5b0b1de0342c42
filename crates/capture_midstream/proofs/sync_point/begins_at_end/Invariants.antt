use Rattle.std.proofs.Common.{◌≤◌, ◌<◌, ℕ, drop}
use Rattle.capture_midstream.specs.SyncPoint.{NoMessageAt}
use Rattle.capture_midstream.proofs.sync_point.begins_at_end.Given as goal

-- no message stands at the places so far
abbrev pub invariant-loop-place : goal.invariant-loop-place
invariant-loop-place l = (q : ℕ) → l.from ≤ q → q < l.place → NoMessageAt l.session (drop q l.octets)
