use Rattle.cli_explain.proofs.ProcessedLines.{processed_none, none_emitted}
use Rattle.cli_explain.proofs.explainer.Explainer.new.Goals as goal

pub returns-clause-reception : goal.returns-clause-reception
returns-clause-reception c = processed_none _ c.new-2.ensures.items (none_emitted c.in_ok-report.report.tally c.in_ok-report.ensures.first c.in_ok-report.ensures.entries)
