use Rattle.std.proofs.Common.{◌∙◌, refl}
use Rattle.cli_explain.proofs.Firsts.{keeps_on, keeps_then}
use Rattle.explain_forms.proofs.OutputBuffers.{some_then}
use Rattle.cli_explain.proofs.report.Report.emit_end.Goals as goal

pub returns-clause-shown : goal.returns-clause-shown
returns-clause-shown c =
    keeps_then _ _ _ (keeps_then _ _ _ c.emit_doubts.ensures.shown c.emit_emptiness.ensures.shown)
    (keeps_then _ _ _
    (keeps_on _ _ refl refl refl
    (λ is.
    let asked = c.emitter-emitter.ensures ∙ is in
    some_then _ _ _ (c.groups.ensures asked) (c.failures.ensures asked)))
    c.emit_primaries.ensures.shown)
