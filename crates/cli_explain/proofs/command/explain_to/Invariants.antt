use Rattle.std.proofs.Common.{◌≡◌, ◌*◌}
use Rattle.cli_explain.specs.Explain.{GrowsBySome}
use Rattle.cli_explain.specs.InnerFirstFailureOutput.{IsWritten}
use Rattle.cli_explain.proofs.FormattedLines.{HasRead}
use Rattle.cli_explain.proofs.command.explain_to.Given as goal

-- What was read was processed, and some output was written.
abbrev pub invariant-loop : goal.invariant-loop
invariant-loop g l =
    let old = g.R.Source.state l.initial.source in
    let now = g.R.Source.state l.source in
    HasRead old.left (4096 * l.counter) l.explainer now.left
    × (now.ends ≡ old.ends)
    × (now.failures ≡ old.failures)
    × GrowsBySome (g.W.Sink.state l.initial.sink).written (g.W.Sink.state l.sink).written
    × ((g.W.Sink.state l.sink).failures ≡ (g.W.Sink.state l.initial.sink).failures)
    × IsWritten l.excerpt (g.W.Sink.state l.initial.sink).written l.explainer.report (g.W.Sink.state l.sink).written
