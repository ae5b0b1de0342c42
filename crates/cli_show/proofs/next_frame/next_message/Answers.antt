use Rattle.std.proofs.Common.{Ok, ap, arith, sym, ◌∙◌}
use Rattle.std.proofs.lemmas.Result.{err_from_is_err_and}
use Rattle.cli_show.proofs.NextFrames.{found_is_returned, open_front, open_is_short, stopped}
use Rattle.cli_show.proofs.next_frame.next_message.Goals as goal

pub returns-in_err-read_more-clause-message : goal.returns-in_err-read_more-clause-message
returns-in_err-read_more-clause-message g c = λ input known_input.
    let so_far = c.loop-found.invariant.0 input known_input in
    let begun = open_front _ _ _ (sym c.is_to_be_read.ensures ∙ c.loop-found-test.true) c.loop-found.invariant.1 in
    let p = err_from_is_err_and c.from_residual.result c.from_residual.ensures.1 in
    rw (p.1, p.2) (stopped _ _ c.loop-found.ahead so_far.0 _ _ so_far.2 begun c.in_err-read_more.ensures.fault (c.in_err-read_more.ensures.err so_far.0 so_far.1))

pub loop-found-smaller : goal.loop-found-smaller
loop-found-smaller g c =
    let begun = open_front _ _ _ (sym c.is_to_be_read.ensures ∙ c.loop-found-test.true) c.loop-found.invariant.1 in
    let short = open_is_short _ _ begun in
    let longer = c.in_ok-read_more.ensures.more (ap Ok c.if-not-branch.false) in
    omega (arith, longer, short)

pub returns-clause-message : goal.returns-clause-message
returns-clause-message g c = λ input known_input.
    let so_far = c.loop-found.invariant.0 input known_input in
    rw c.found_result.ensures (found_is_returned _ _ c.loop-found.ahead c.loop-found.found _ (sym c.is_to_be_read.ensures ∙ c.loop-found-test.false) c.loop-found.invariant.1
    (so_far.0, so_far.1, so_far.2))
