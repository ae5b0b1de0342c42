use Rattle.std.proofs.Common.{◌≤◌, ◌^◌, length, arith, sym, subst}
use Rattle.hsms_log.specs.Lines.{lines_of}
use Rattle.explain_statistics.specs.declared.failure_counts.Tally.{Tally}
use Rattle.cli_explain.specs.InnerFirstFailureOutput.{IsOfFirst}
use Rattle.cli_explain.proofs.Firsts.{keeps_then}
use Rattle.cli_explain.proofs.explainer.Explainer.finish.Goals as goal

pub returns-clause-gives_verdict : goal.returns-clause-gives_verdict
returns-clause-gives_verdict c = λ text few reception.
    let all = c.in_ok-end_last.ensures.shown_line text reception in
    let size = all.1 in
    let small : length (lines_of text) ≤ 2 ^ 63 = omega (arith, few, size) in
    c.verdict-verdict.ensures.gives_verdict (lines_of text) small all.0

pub returns-clause-first : goal.returns-clause-first
returns-clause-first c = λ text reception some.
    let P : Tally → Type 0 = λ t. IsOfFirst c.verdict-verdict.result t.first in
    subst P (sym c.emit_rest.ensures.tally) (c.verdict-verdict.ensures.first (lines_of text) (c.in_ok-end_last.ensures.shown_line text reception).0 some)

pub returns-clause-shown : goal.returns-clause-shown
returns-clause-shown c = keeps_then _ _ _ c.in_ok-end_last.ensures.shown c.emit_rest.ensures.shown
