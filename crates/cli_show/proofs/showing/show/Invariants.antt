use Rattle.std.proofs.Common.{◌≡◌}
use Rattle.hsms_frame.specs.Io.{IfRecorded}
use Rattle.cli_show.specs.InnerReadAhead.{subsequent}
use Rattle.cli_show.proofs.Runs.{Begun}
use Rattle.cli_show.proofs.showing.show.Given as goal

-- The lines of the messages so far are written or buffered, the end was not found, and no read or write failed.
abbrev pub invariant-loop : goal.invariant-loop
invariant-loop g l =
    IfRecorded (g.R.Source.state l.initial.source).left (λ input. Begun l.max l.depth input l.counter (subsequent l.ahead (g.R.Source.state l.source).left)
    (g.W.Sink.state l.initial.sink).written (g.W.Sink.state l.sink).written l.held)
    × ((g.R.Source.state l.source).ends ≡ (g.R.Source.state l.initial.source).ends)
    × ((g.R.Source.state l.source).failures ≡ (g.R.Source.state l.initial.source).failures)
    × ((g.W.Sink.state l.sink).failures ≡ (g.W.Sink.state l.initial.sink).failures)
