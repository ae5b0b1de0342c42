use Rattle.std.proofs.Common.{length, ◌-◌, ◌≤◌, take, Ok}
use Rattle.hsms_ends.specs.InnerOutput.{LogsAll}
use Rattle.hsms_ends.proofs.output.log_rest.Given as goal

-- The entries processed so far are logged.
abbrev pub invariant-loop-place : goal.invariant-loop-place
invariant-loop-place g l =
    (l.place ≤ length l.entries)
    × LogsAll (Ok tt) (g.W.Sink.state l.initial.log) (g.W.Sink.state l.log) (take l.place l.entries)

abbrev pub decreases-loop-place : goal.decreases-loop-place
decreases-loop-place g l = length l.entries - l.place
