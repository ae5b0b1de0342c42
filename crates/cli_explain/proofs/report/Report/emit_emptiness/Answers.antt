use Rattle.cli_explain.proofs.report.Report.emit_emptiness.Goals as goal

pub returns-else-is_empty-clause-shown : goal.returns-else-is_empty-clause-shown
returns-else-is_empty-clause-shown c = λ excerpt written is shows. shows
