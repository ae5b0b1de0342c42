use Rattle.std.proofs.Common.{◌∙◌, [], refl, sym, subst}
use Rattle.explain_forms.specs.declared.output_buffer.Page.{Page}
use Rattle.explain_forms.specs.OutputBuffer.{AddsSome}
use Rattle.cli_explain.proofs.Firsts.{keeps_on}
use Rattle.explain_forms.proofs.OutputBuffers.{adds_none}
use Rattle.cli_explain.proofs.report.Report.emit_ends.Goals as goal

pub returns-clause-shown : goal.returns-clause-shown
returns-clause-shown c =
    let P : Page → Type 0 = λ p. AddsSome c.args.self.now.page p in
    keeps_on _ _ refl refl refl (λ is. subst P (sym (c.ends.ensures (c.emitter.ensures ∙ is))) ([], adds_none _))
