use Rattle.std.proofs.Common.{◌≡◌, length}
use Rattle.cli_filters.proofs.Lines.{LinesSoFar}
use Rattle.cli_filters.proofs.frame_output.put_lines.Given as goal

-- The lines so far are written or buffered, and no write failed.
abbrev pub invariant-loop-front : goal.invariant-loop-front
invariant-loop-front g l =
    LinesSoFar l.octets l.rest (g.W.Sink.state l.initial.sink).written l.initial.held (g.W.Sink.state l.sink).written l.held
    × ((g.W.Sink.state l.sink).failures ≡ (g.W.Sink.state l.initial.sink).failures)

abbrev pub decreases-loop-front : goal.decreases-loop-front
decreases-loop-front g l = length l.rest
