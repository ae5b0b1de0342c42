use Rattle.std.proofs.Common.{◌∙◌, ap, sym, subst}
use Rattle.explain_forms.specs.declared.output_buffer.Page.{Page}
use Rattle.explain_forms.specs.OutputBuffer.{AddsSome}
use Rattle.explain_forms.proofs.OutputBuffers.{some_then}
use Rattle.cli_explain.proofs.line_filter.Window.finish.Goals as goal

pub returns-clause-shown_line : goal.returns-clause-shown_line
returns-clause-shown_line c = λ is.
    let P : Page → Type 0 = λ p. AddsSome c.args.page.now p in
    let skipped = c.skip_all.ensures in
    let then_is = ap (λ e. e.form) skipped.excerpt ∙ is in
    let last_is = ap (λ e. e.form) c.leave_out.ensures.excerpt ∙ then_is in
    subst P (sym (c.end_lines.ensures (c.emitter.ensures ∙ last_is))) (some_then _ _ _ skipped.shown_line (_, c.leave_out.ensures.shown_line then_is))
