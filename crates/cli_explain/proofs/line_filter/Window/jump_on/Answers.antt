use Rattle.std.proofs.Common.{◌∙◌, [], ap}
use Rattle.explain_forms.proofs.OutputBuffers.{adds_none}
use Rattle.cli_explain.proofs.line_filter.Window.jump_on.Goals as goal

pub returns-then-takes_jump-clause-shown_line : goal.returns-then-takes_jump-clause-shown_line
returns-then-takes_jump-clause-shown_line c = λ is. c.jump.ensures (c.emitter.ensures ∙ ap (λ e. e.form) c.takes_jump.ensures.excerpt ∙ is)

pub returns-else-takes_jump-clause-shown_line : goal.returns-else-takes_jump-clause-shown_line
returns-else-takes_jump-clause-shown_line c = λ is. ([], adds_none c.args.page.now)
