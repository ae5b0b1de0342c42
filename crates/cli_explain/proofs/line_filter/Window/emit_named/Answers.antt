use Rattle.std.proofs.Common.{◌∙◌, [], ap}
use Rattle.explain_forms.proofs.OutputBuffers.{adds_none, some_then}
use Rattle.cli_explain.proofs.line_filter.Window.emit_named.Goals as goal

pub returns-else-keeps_named-clause-shown_line : goal.returns-else-keeps_named-clause-shown_line
returns-else-keeps_named-clause-shown_line c = λ is. ([], adds_none c.args.page.now)

pub returns-then-keeps_named-clause-shown_line : goal.returns-then-keeps_named-clause-shown_line
returns-then-keeps_named-clause-shown_line c = λ is.
    let all = c.emit_all_named.ensures in
    some_then _ _ _ (all.shown_line is) (c.jump_on.ensures.shown_line (ap (λ e. e.form) all.excerpt ∙ is))
