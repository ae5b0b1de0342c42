use Rattle.std.proofs.Common.{◌∙◌}
use Rattle.std.proofs.lemmas.Result.{err_from_is_err_and}
use Rattle.cli_compare.proofs.Comparisons.{counts_written, stops_unwritten, written}
use Rattle.cli_compare.proofs.comparing.compare_to.Goals as goal

pub returns-in_err-give_all-clause-text : goal.returns-in_err-give_all-clause-text
returns-in_err-give_all-clause-text g c = λ one known other known'.
    let p = err_from_is_err_and c.from_residual-in_err-give_all.result c.from_residual-in_err-give_all.ensures.1 in
    rw (p.1, p.2) (stops_unwritten one other c.in_ok-comparison.comparison _ _ _ (c.in_ok-comparison.ensures.ok one other known known')
    (rw c.as_bytes.ensures.value c.in_ok-text.ensures) c.in_err-give_all.ensures.err)

pub returns-clause-text : goal.returns-clause-text
returns-clause-text g c = λ one known other known'.
    written one other c.in_ok-comparison.comparison _ c.outcome.result _ _ (c.in_ok-comparison.ensures.ok one other known known')
    (rw c.as_bytes.ensures.value c.in_ok-text.ensures) c.in_ok-give_all.ensures.ok c.outcome.ensures

pub returns-clause-writes : goal.returns-clause-writes
returns-clause-writes g c =
    c.in_ok-give_all.ensures.failures ∙ counts_written c.outcome.result c.in_ok-comparison.comparison _ c.outcome.ensures
