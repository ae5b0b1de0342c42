use Rattle.std.proofs.Common.{[]}
use Rattle.explain_forms.proofs.OutputBuffers.{adds_none}
use Rattle.cli_explain.proofs.line_filter.Window.emit_if_named.Goals as goal

pub returns-in_default-clause-shown_line : goal.returns-in_default-clause-shown_line
returns-in_default-clause-shown_line c = λ is. ([], adds_none c.args.page.now)
