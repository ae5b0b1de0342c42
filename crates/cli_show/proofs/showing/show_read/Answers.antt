use Rattle.std.proofs.Common.{refl, inl}
use Rattle.std.proofs.lemmas.Result.{err_from_is_err_and}
use Rattle.cli_show.proofs.Runs.{append_shows, append_stops, holds_none}
use Rattle.cli_show.proofs.showing.show_read.Goals as goal

pub returns-in_err-put_out-clause-line : goal.returns-in_err-put_out-clause-line
returns-in_err-put_out-clause-line g c = λ rest known_input.
    let p = err_from_is_err_and c.from_residual.result c.from_residual.ensures.1 in
    rw (p.1, p.2) (inl ((c.args.ahead.now, rest, refl, known_input), c.in_err-put_out.ensures.some, c.in_err-put_out.ensures.err))

pub returns-in_err-header-clause-line : goal.returns-in_err-header-clause-line
returns-in_err-header-clause-line g c = λ rest known_input.
    let p = err_from_is_err_and c.from_residual-in_err-header.result c.from_residual-in_err-header.ensures.1 in
    rw (p.1, p.2) (c.in_err-header.ensures.message rest known_input, c.in_ok-put_out.ensures.ok)

pub returns-in_default-clause-line : goal.returns-in_default-clause-line
returns-in_default-clause-line g c = λ rest known_input.
    let a = rw c.in_default.is at (c.in_ok-header.ensures.message rest known_input) in
    (a.0, a.1, c.in_ok-put_out.ensures.ok)

pub returns-in_err-append_prefix-clause-line : goal.returns-in_err-append_prefix-clause-line
returns-in_err-append_prefix-clause-line g c = λ rest known_input.
    let a = rw c.in-Some.is at (c.in_ok-header.ensures.message rest known_input) in
    let front = rw c.in-Some.is at c.in_ok-header.ensures.whole in
    let mid = (g.W.Sink.state c.put_out.new.sink).written in
    let then = c.put_out.new.held in
    let holds = holds_none (g.W.Sink.state c.args.sink.now).written c.args.held.now mid then c.in_ok-put_out.ensures.none c.in_ok-put_out.ensures.ok in
    let p = err_from_is_err_and c.from_residual-in_err-append_prefix.result c.from_residual-in_err-append_prefix.ensures.1 in
    rw (p.1, p.2) (append_stops _ _ _ c.next_message.new.ahead a.0 c.in-Some.header c.in-Some.size _ _ _ mid then _ c.append_prefix.new.held _ a.2 a.1 front holds c.in_err-append_prefix.ensures.line)

pub returns-clause-line : goal.returns-clause-line
returns-clause-line g c = λ rest known_input.
    let a = rw c.in-Some.is at (c.in_ok-header.ensures.message rest known_input) in
    let front = rw c.in-Some.is at c.in_ok-header.ensures.whole in
    let mid = (g.W.Sink.state c.put_out.new.sink).written in
    let then = c.put_out.new.held in
    let holds = holds_none (g.W.Sink.state c.args.sink.now).written c.args.held.now mid then c.in_ok-put_out.ensures.none c.in_ok-put_out.ensures.ok in
    append_shows _ _ _ c.next_message.new.ahead a.0 c.in-Some.header c.in-Some.size tt c.append_prefix.new.ahead _ _ _ mid then _ _ a.2 a.1 front c.in_ok-append_prefix.ensures.passed holds c.in_ok-append_prefix.ensures.line
