use Rattle.std.proofs.Common.{◌∙◌, ap}
use Rattle.explain_forms.proofs.OutputBuffers.{some_then}
use Rattle.cli_explain.proofs.line_filter.Window.approach.Goals as goal

pub returns-then-number-self-clause-shown_line : goal.returns-then-number-self-clause-shown_line
returns-then-number-self-clause-shown_line c = λ is.
    let jumps = c.jump_on.ensures in
    some_then _ _ _ (jumps.shown_line is) (_, c.go_to.ensures.shown_line (ap (λ e. e.form) jumps.excerpt ∙ is))
