use Rattle.std.proofs.Common.{refl}
use Rattle.std.proofs.lemmas.Result.{err_from_is_err_and}
use Rattle.cli_show.proofs.LineEnds.{holding_found}
use Rattle.cli_show.proofs.hex_lines.next_end.Goals as goal

pub returns-in_err-put_out-in-Open-clause-end : goal.returns-in_err-put_out-in-Open-clause-end
returns-in_err-put_out-in-Open-clause-end g c = λ rest known_input.
    let p = err_from_is_err_and c.from_residual.result c.from_residual.ensures.1 in
    rw (p.1, p.2) ((c.args.ahead.now, rest, refl, known_input), c.in_err-put_out-in-Open.ensures.err)

pub returns-in_ok-read_to_end-in-Open-clause-end : goal.returns-in_ok-read_to_end-in-Open-clause-end
returns-in_ok-read_to_end-in-Open-clause-end g c = λ rest known_input.
    holding_found c.args.max _ _ _ _ _ _ _ _ c.in_ok-put_out-in-Open.ensures.none c.in_ok-put_out-in-Open.ensures.ok (c.in_ok-read_to_end-in-Open.ensures.end rest known_input)
