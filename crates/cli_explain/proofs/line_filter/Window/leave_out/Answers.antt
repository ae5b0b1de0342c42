use Rattle.std.proofs.Common.{◌≤◌, ◌<◌, ◌+◌, ◌∙◌, arith}
use Rattle.cli_explain.proofs.LineFilters.{follows, leaves_out}
use Rattle.cli_explain.proofs.line_filter.Window.leave_out.Goals as goal

pub returns-then-to-self-clause-shown_line : goal.returns-then-to-self-clause-shown_line
returns-then-to-self-clause-shown_line c = λ is.
    let last = c.args.self.now.last in
    let near : c.args.to + 1 ≤ last + 1 = omega (arith, c.if-to-self.true) in
    follows c.args.page.now last (c.args.to + 1) near

pub returns-clause-shown_line : goal.returns-clause-shown_line
returns-clause-shown_line c = λ is.
    let last = c.args.self.now.last in
    let far : last + 1 < c.args.to + 1 = omega (arith, c.if-to-self.false) in
    leaves_out _ _ last (c.args.to + 1) far (c.gap.ensures (c.emitter.ensures ∙ is))
