use Rattle.std.proofs.Common.{◌≡◌, ◌∙◌, length, vec_len, rules}
use Rattle.std.proofs.lemmas.Result.{err_from_is_err_and}
use Rattle.cli_capture.specs.declared.tracked_connection.Waiting.{Waiting}
use Rattle.cli_capture.proofs.StageRefusals.{waits_refused}
use Rattle.cli_capture.proofs.tracked_connection.wait.Goals as goal

pub returns-in_err-give_up-clause-refuses : goal.returns-in_err-give_up-clause-refuses
returns-in_err-give_up-clause-refuses c =
    let p = err_from_is_err_and c.from_residual-in_err-give_up.result c.from_residual-in_err-give_up.ensures.1 in
    let x : Waiting = record { segment = c.args.segment; octets = c.extend_from_slice.new.self } in
    let len : vec_len c.push.new.self ≡ length c.push.new.self.items = search rules in
    rw (p.1, p.2)
    (waits_refused c.args.waiting.items c.push.new.self.items c.deref.result.now x c.new-held.result.items c.args.octets.now c.len.result _ c.is_err.result _
    c.args.report.now c.give_up.new.report c.push.ensures.items c.is_err.ensures.negation c.if-is_err.false c.in_ok-extend_from_slice.ensures.items
    c.new-held.ensures.items (c.len.ensures ∙ len) c.if-len-le-GREATEST_WAIT.false c.deref.ensures.value c.in_err-give_up.ensures.refuses)
