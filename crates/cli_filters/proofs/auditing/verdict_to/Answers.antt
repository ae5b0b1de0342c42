use Rattle.std.proofs.lemmas.Result.{err_from_is_err_and}
use Rattle.cli_output.specs.Verdict.{verdict_line_of}
use Rattle.cli_filters.proofs.Audits.{answers_written, counts_unjudged, counts_unlined, counts_unwritten, counts_written, stops_unjudged, stops_unwritten}
use Rattle.cli_filters.proofs.auditing.verdict_to.Goals as goal

pub returns-in_err-verdict-clause-line : goal.returns-in_err-verdict-clause-line
returns-in_err-verdict-clause-line g c = λ input known_input.
    let p = err_from_is_err_and c.from_residual.result c.from_residual.ensures.1 in
    rw (p.1, p.2) (stops_unjudged verdict_line_of _ _ _ _ _ (c.in_err-verdict.ensures.answer input known_input))

pub returns-in_err-verdict-clause-counts : goal.returns-in_err-verdict-clause-counts
returns-in_err-verdict-clause-counts g c =
    let p = err_from_is_err_and c.from_residual.result c.from_residual.ensures.1 in
    rw (p.1, p.2) (counts_unjudged _ _ _ c.in_err-verdict.ensures.counts)

pub returns-in_err-line-clause-counts : goal.returns-in_err-line-clause-counts
returns-in_err-line-clause-counts g c =
    let p = err_from_is_err_and c.from_residual-in_err-line.result c.from_residual-in_err-line.ensures.1 in
    rw (p.1, p.2) (counts_unlined _ _ _ c.in_ok-verdict.ensures.counts)

pub returns-in_err-give_all-clause-line : goal.returns-in_err-give_all-clause-line
returns-in_err-give_all-clause-line g c = λ input known_input.
    let p = err_from_is_err_and c.from_residual-in_err-give_all.result c.from_residual-in_err-give_all.ensures.1 in
    rw (p.1, p.2) (stops_unwritten verdict_line_of _ _ _ _ _ _ _ (c.in_ok-verdict.ensures.answer input known_input)
    (rw c.as_bytes.ensures.value c.in_ok-line.ensures) c.in_err-give_all.ensures.err)

pub returns-in_err-give_all-clause-counts : goal.returns-in_err-give_all-clause-counts
returns-in_err-give_all-clause-counts g c =
    let p = err_from_is_err_and c.from_residual-in_err-give_all.result c.from_residual-in_err-give_all.ensures.1 in
    rw (p.1, p.2) (counts_unwritten _ _ _ c.in_ok-verdict.ensures.counts)

pub returns-clause-line : goal.returns-clause-line
returns-clause-line g c = λ input known_input.
    answers_written verdict_line_of _ _ _ _ _ _ _ (c.in_ok-verdict.ensures.answer input known_input) (rw c.as_bytes.ensures.value c.in_ok-line.ensures) c.in_ok-give_all.ensures.ok

pub returns-clause-counts : goal.returns-clause-counts
returns-clause-counts g c = counts_written _ _ _ c.in_ok-verdict.ensures.counts
