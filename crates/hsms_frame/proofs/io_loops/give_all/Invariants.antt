use Rattle.std.proofs.Common.{length, ◌-◌, ◌≡◌, ◌≤◌, ◌+◌, take}
use Rattle.hsms_frame.specs.Io.{Grows}
use Rattle.hsms_frame.proofs.io_loops.give_all.Given as goal

-- What was written so far is the front of the slice.
abbrev pub invariant-loop-given : goal.invariant-loop-given
invariant-loop-given g l =
    (l.given ≤ length l.octets)
    × Grows (g.W.Sink.state l.initial.sink).written (g.W.Sink.state l.sink).written (take l.given l.octets)
    × ((g.W.Sink.state l.sink).gives ≤ (g.W.Sink.state l.initial.sink).gives + l.given)
    × ((g.W.Sink.state l.sink).failures ≡ (g.W.Sink.state l.initial.sink).failures)

abbrev pub decreases-loop-given : goal.decreases-loop-given
decreases-loop-given g l = length l.octets - l.given
