use Rattle.cli_capture.specs.InnerReport.{Emits}
use Rattle.cli_capture.proofs.Stages.{AreEnded}
use Rattle.cli_capture.proofs.connection_table.Table.finish.Given as goal

-- so far some connections were told, and what was left of the first ones
abbrev pub invariant-loop-pair : goal.invariant-loop-pair
invariant-loop-pair l = record {
  emitted : Emits l.initial.report l.report;
  ends : AreEnded l.fn.missing l.fn.self.flows.entries l.pair-iterator l.initial.report l.report;
}
