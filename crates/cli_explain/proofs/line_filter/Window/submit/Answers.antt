use Rattle.std.proofs.Common.{◌∙◌, ap}
use Rattle.cli_explain.proofs.LineFilters.{next_passed}
use Rattle.cli_explain.proofs.line_filter.Window.submit.Goals as goal

pub returns-clause-shown_line : goal.returns-clause-shown_line
returns-clause-shown_line c = λ is.
    let outbound = c.go_to.ensures in
    next_passed _ _ _ c.args.self.now.last c.args.shown_line c.args.notes.now (outbound.shown_line is) (c.line.ensures (c.emitter.ensures ∙ ap (λ e. e.form) outbound.excerpt ∙ is))
