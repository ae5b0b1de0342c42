use Rattle.std.proofs.Common.{◌∙◌, [], ap}
use Rattle.explain_forms.proofs.OutputBuffers.{some_then}
use Rattle.cli_explain.proofs.line_filter.Window.emit_kept.Goals as goal

pub returns-in_default-clause-shown_line : goal.returns-in_default-clause-shown_line
returns-in_default-clause-shown_line c = λ is. some_then _ _ _ (c.approach.ensures.shown_line is) ([], c.refuse.ensures [])

pub returns-clause-shown_line : goal.returns-clause-shown_line
returns-clause-shown_line c = λ is.
    let outbound = c.approach.ensures in
    some_then _ _ _ (outbound.shown_line is) (c.named_line.ensures (c.emitter-emitter.ensures ∙ ap (λ e. e.form) outbound.excerpt ∙ is))
