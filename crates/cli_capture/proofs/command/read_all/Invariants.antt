use Rattle.std.proofs.Common.{◌≡◌, ◌≤◌, ◌+◌}
use Rattle.cli_capture.specs.Command.{GrowsBySome}
use Rattle.cli_capture.specs.InnerCommand.{HasPassed}
use Rattle.cli_capture.specs.InnerReport.{Writes}
use Rattle.cli_capture.proofs.Whole.{IsSoFar}
use Rattle.cli_capture.proofs.command.read_all.Given as goal

-- so far no device has failed, what was written before stands, and each packet went to its connection
abbrev pub invariant-loop : goal.invariant-loop
invariant-loop g l =
    ((g.R.Source.state l.source).failures ≡ (g.R.Source.state l.initial.source).failures)
    × ((g.W.Sink.state l.sink).failures ≡ (g.W.Sink.state l.initial.sink).failures)
    × Writes l.initial.report (g.W.Sink.state l.initial.sink).written l.report (g.W.Sink.state l.sink).written
    × GrowsBySome (g.W.Sink.state l.initial.sink).written (g.W.Sink.state l.sink).written
    × (l.packets.state.packets ≤ l.initial.packets.state.packets + l.counter)
    × HasPassed l.counter l.initial.packets.ahead (g.R.Source.state l.initial.source).left l.packets.ahead (g.R.Source.state l.source).left
    × IsSoFar l.initial.packets (g.R.Source.state l.initial.source).left l.initial.table l.initial.report (g.W.Sink.state l.initial.sink).written
    l.packets (g.R.Source.state l.source).left l.table l.report (g.W.Sink.state l.sink).written
