use Rattle.std.proofs.Common.{sym, subst}
use Rattle.explain_statistics.specs.declared.failure_counts.Tally.{Tally}
use Rattle.cli_explain.specs.InnerFirstFailureOutput.{IsOfFirst}
use Rattle.cli_explain.proofs.Firsts.{first_failure, more_shown}
use Rattle.cli_explain.proofs.FormattedLines.{front_more, none_more, on_err, some_more, verdict_last}
use Rattle.cli_explain.proofs.command.conclude.Goals as goal

pub returns-in_err-verdict-clause-some : goal.returns-in_err-verdict-clause-some
returns-in_err-verdict-clause-some g c = on_err _ c.from_residual.result (none_more _)

pub returns-in_err-put-clause-some : goal.returns-in_err-put-clause-some
returns-in_err-put-clause-some g c =
    on_err _ c.from_residual-in_err-put.result (some_more _ _ _ c.in_ok-write_buffered.ensures.some (front_more _ _ _ c.in_err-put.ensures.err))

pub returns-clause-shown_line : goal.returns-clause-shown_line
returns-clause-shown_line g c = λ text few reception. (
  c.in_ok-verdict.verdict,
  c.in_ok-verdict.ensures.gives_verdict text few reception,
  c.passes.ensures,
  verdict_last _ _ _ _ _ _ c.in_ok-write_buffered.ensures.some c.in_ok-put.ensures.ok (rw c.as_bytes.ensures.value c.in_ok-ending.ensures),
)

pub returns-clause-first : goal.returns-clause-first
returns-clause-first g c = λ excerpt start text few reception written.
    let verdict = c.in_ok-verdict.ensures in
    let T : Tally → Type 0 = λ t. IsOfFirst c.in_ok-verdict.verdict t.first in
    first_failure excerpt text start _ _ c.write_buffered.new.explainer.report c.in_ok-verdict.verdict _ c.each_text_has_one_verdict.ensures.one (verdict.gives_verdict text few reception)
    (λ some. subst T (sym c.write_buffered.ensures.tally) (verdict.first text reception some)) (c.in_ok-write_buffered.ensures.shown excerpt start (more_shown excerpt start _ _ _ verdict.shown written)) c.in_ok-put.ensures.ok
