use Rattle.std.proofs.Common.{◌∙◌, ap}
use Rattle.std.specs.Str.Lines.{strip_carriage_return}
use Rattle.explain_lines.proofs.Results.{on_ok_more}
use Rattle.cli_explain.proofs.ProcessedLines.{processed_held}
use Rattle.cli_explain.proofs.explainer.Explainer.emit_held.Goals as goal

pub returns-clause-reception : goal.returns-clause-reception
returns-clause-reception c =
    on_ok_more _ _ c.emit_line-shown_line.result
    (λ shown_line text. processed_held c.args.self.now _ text c.without_carriage_return.result.now
    (c.without_carriage_return.ensures ∙ ap strip_carriage_return c.deref.ensures.value) c.clear.ensures.items shown_line)
    c.emit_line-shown_line.ensures.shown_line
