use Rattle.std.proofs.Common.{◌∙◌, [], sym, subst, ap}
use Rattle.explain_forms.specs.declared.output_buffer.Page.{Page}
use Rattle.explain_forms.specs.OutputBuffer.{HasEmitted}
use Rattle.cli_explain.proofs.Firsts.{nothing_shown}
use Rattle.cli_explain.proofs.report.Report.new.Goals as goal

pub returns-clause-shown : goal.returns-clause-shown
returns-clause-shown c = λ is.
    let P : Page → Type 0 = λ p. HasEmitted p [] in
    let same = c.begin.ensures (c.emitter.ensures ∙ ap (λ e. e.form) c.new-window.ensures ∙ is) in
    nothing_shown _ _ c.new-window.ensures (λ none. c.new-3.ensures) c.new-2.ensures.first (subst P (sym same) c.in_ok-page.ensures)
