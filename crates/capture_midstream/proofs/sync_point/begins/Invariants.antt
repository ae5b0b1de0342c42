use Rattle.std.proofs.Common.{◌≤◌, ◌<◌, ℕ}
use Rattle.capture_midstream.specs.SyncPoint.{IsRefused}
use Rattle.capture_midstream.proofs.sync_point.begins.Given as goal

-- the places so far are refused
abbrev pub invariant-loop-place : goal.invariant-loop-place
invariant-loop-place l = (q : ℕ) → l.from ≤ q → q < l.place → IsRefused l.session l.octets q
