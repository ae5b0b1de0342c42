use Rattle.std.proofs.Common.{◌∙◌, refl}
use Rattle.cli_explain.proofs.Firsts.{keeps_on}
use Rattle.explain_forms.proofs.OutputBuffers.{some_then}
use Rattle.cli_explain.proofs.report.Report.emit_primaries.Goals as goal

pub returns-clause-shown : goal.returns-clause-shown
returns-clause-shown c =
    keeps_on _ _ refl refl refl
    (λ is.
    let asked = c.emitter-emitter.ensures ∙ is in
    some_then _ _ _ (c.primaries.ensures asked) (c.lists.ensures asked))
