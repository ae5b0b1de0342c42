use Rattle.std.proofs.Common.{refl, subst}
use Rattle.std.proofs.lemmas.Result.{err_from_is_err_and}
use Rattle.hsms_frame.specs.Framing.{IsFrontOf}
use Rattle.cli_show.proofs.Runs.{holds_same, append_shows, append_stops}
use Rattle.cli_show.proofs.showing.show_next.Goals as goal

pub returns-in_err-append_prefix-clause-line : goal.returns-in_err-append_prefix-clause-line
returns-in_err-append_prefix-clause-line g c = λ rest known_input.
    let h = c.in-Some.header in
    let size = c.in-Some.size in
    let front = subst (λ xs. IsFrontOf c.args.max xs h size) c.as_slice.ensures c.in-Some.ensures in
    let written = (g.W.Sink.state c.args.sink.now).written in
    let held = c.args.held.now in
    let p = err_from_is_err_and c.from_residual.result c.from_residual.ensures.1 in
    rw (p.1, p.2) (append_stops _ _ _ c.args.ahead.now rest h size _ written held written held _ c.append_prefix.new.held _ refl known_input front (holds_same written held) c.in_err-append_prefix.ensures.line)

pub returns-clause-line : goal.returns-clause-line
returns-clause-line g c = λ rest known_input.
    let h = c.in-Some.header in
    let size = c.in-Some.size in
    let front = subst (λ xs. IsFrontOf c.args.max xs h size) c.as_slice.ensures c.in-Some.ensures in
    let written = (g.W.Sink.state c.args.sink.now).written in
    let held = c.args.held.now in
    append_shows _ _ _ c.args.ahead.now rest h size tt c.append_prefix.new.ahead _ written held written held _ _ refl known_input front c.in_ok-append_prefix.ensures.passed (holds_same written held) c.in_ok-append_prefix.ensures.line
