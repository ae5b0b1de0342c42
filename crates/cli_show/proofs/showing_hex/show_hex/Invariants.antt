use Rattle.std.proofs.Common.{◌≡◌}
use Rattle.hsms_frame.specs.Io.{IfRecorded}
use Rattle.cli_options.specs.Request.{is_bare}
use Rattle.cli_show.specs.InnerReadAhead.{subsequent}
use Rattle.cli_show.proofs.HexRuns.{BegunLines}
use Rattle.cli_show.proofs.showing_hex.show_hex.Given as goal

-- What is shown of the lines so far is written or buffered, the end was not found, and no read or write failed.
abbrev pub invariant-loop-passed : goal.invariant-loop-passed
invariant-loop-passed g l =
    IfRecorded (g.R.Source.state l.initial.source).left (λ input. BegunLines (is_bare l.showing.form) l.showing.max l.showing.depth input l.passed (subsequent l.ahead (g.R.Source.state l.source).left)
    (g.W.Sink.state l.initial.sink).written (g.W.Sink.state l.sink).written l.held)
    × ((g.R.Source.state l.source).ends ≡ (g.R.Source.state l.initial.source).ends)
    × ((g.R.Source.state l.source).failures ≡ (g.R.Source.state l.initial.source).failures)
    × ((g.W.Sink.state l.sink).failures ≡ (g.W.Sink.state l.initial.sink).failures)
