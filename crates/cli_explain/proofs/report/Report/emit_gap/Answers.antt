use Rattle.std.proofs.Common.{refl}
use Rattle.cli_explain.proofs.Firsts.{keeps_asked}
use Rattle.cli_explain.proofs.report.Report.emit_gap.Goals as goal

pub returns-clause-shown : goal.returns-clause-shown
returns-clause-shown c = keeps_asked _ _ c.finish.ensures.excerpt refl refl c.finish.ensures.shown_line
