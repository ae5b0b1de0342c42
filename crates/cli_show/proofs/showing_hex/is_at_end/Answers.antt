use Rattle.std.proofs.Common.{◌≡◌, ◌<◌, length, refl, rules}
use Rattle.std.proofs.lemmas.Result.{err_from_is_err_and}
use Rattle.cli_show.proofs.HexSteps.{all_unread, more_ahead, none_ahead}
use Rattle.cli_show.proofs.showing_hex.is_at_end.Goals as goal

pub returns-then-not-is_empty-clause-answer : goal.returns-then-not-is_empty-clause-answer
returns-then-not-is_empty-clause-answer g c = λ octets known_input.
    let some : 0 < length c.as_slice.result.now = search rules in
    (more_ahead c.args.ahead.now octets c.as_slice.result.now c.as_slice.ensures some, (c.args.ahead.now, octets, refl, known_input))

pub returns-in_err-read_more-clause-answer : goal.returns-in_err-read_more-clause-answer
returns-in_err-read_more-clause-answer g c = λ octets known_input.
    let none : length c.as_slice.result.now ≡ 0 = search rules in
    let p = err_from_is_err_and c.from_residual.result c.from_residual.ensures.1 in
    rw (p.1, p.2) (all_unread c.args.ahead.now octets _ _ (none_ahead c.args.ahead.now c.as_slice.result.now c.as_slice.ensures none) (c.in_err-read_more.ensures.err octets known_input) c.in_err-read_more.ensures.fault)
