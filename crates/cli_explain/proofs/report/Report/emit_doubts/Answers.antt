use Rattle.std.proofs.Common.{◌∙◌, refl}
use Rattle.cli_explain.proofs.Firsts.{keeps_on}
use Rattle.cli_explain.proofs.report.Report.emit_doubts.Goals as goal

pub returns-clause-shown : goal.returns-clause-shown
returns-clause-shown c = keeps_on _ _ refl refl refl (λ is. c.doubts.ensures (c.emitter.ensures ∙ is))
