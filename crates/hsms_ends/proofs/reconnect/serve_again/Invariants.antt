use Rattle.std.proofs.Common.{◌-◌, ◌≤◌}
use Rattle.hsms_ends.proofs.Reconnections.{SoFar}
use Rattle.hsms_ends.proofs.reconnect.serve_again.Given as goal

-- The connections so far are down, and the next one continues from them.
abbrev pub invariant-loop-done : goal.invariant-loop-done
invariant-loop-done g l =
    (l.done ≤ l.options.connections)
    × SoFar g.D.TurnDesk.answers_after l.options.first.linktest l.desk l.several l.options.first.first_system l.options.first.turns l.options.first.script.now l.options.later_script.now l.since l.done l.complete
    (g.W.Sink.state l.initial.log) (g.W.Sink.state l.log) (g.L.Link.link_state l.initial.link) (g.L.Link.link_state l.link)

abbrev pub decreases-loop-done : goal.decreases-loop-done
decreases-loop-done g l = l.options.connections - l.done
