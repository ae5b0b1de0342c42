use Rattle.std.proofs.Common.{length, ◌-◌, ◌≤◌, take, Ok}
use Rattle.hsms_ends.specs.Link.{processed_nothing}
use Rattle.hsms_ends.specs.InnerOutput.{PutsOut}
use Rattle.hsms_ends.proofs.output.put_out.Given as goal

-- The entries processed so far are written.
abbrev pub invariant-loop-place : goal.invariant-loop-place
invariant-loop-place g l =
    (l.place ≤ length l.entries)
    × PutsOut (Ok tt) (g.W.Sink.state l.initial.log) (g.W.Sink.state l.log) (g.L.Link.link_state l.initial.link) (g.L.Link.link_state l.link)
    (take l.place l.entries) processed_nothing

abbrev pub decreases-loop-place : goal.decreases-loop-place
decreases-loop-place g l = length l.entries - l.place
