use Rattle.cli_explain.proofs.LineFilters.{left_before}
use Rattle.cli_explain.proofs.line_filter.Window.go_to.Goals as goal

pub returns-clause-shown_line : goal.returns-clause-shown_line
returns-clause-shown_line c = λ is. left_before _ _ c.args.self.now.last c.args.number c.saturating_sub.result c.saturating_sub.ensures (c.leave_out.ensures.shown_line is)
