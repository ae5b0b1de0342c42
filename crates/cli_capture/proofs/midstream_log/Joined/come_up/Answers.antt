use Rattle.std.proofs.Common.{ap}
use Rattle.std.proofs.lemmas.Result.{err_from_is_err_and}
use Rattle.cli_capture.specs.declared.midstream_log.Joined.{Joined}
use Rattle.cli_capture.proofs.SessionRefusals.{up_refused}
use Rattle.cli_capture.proofs.Sessions.{come_told}
use Rattle.cli_capture.proofs.midstream_log.Joined.come_up.Goals as goal

pub returns-clause-items : goal.returns-clause-items
returns-clause-items c =
    come_told c.args.pair.now c.args.self.now c.assume_up.new.ends c.suppose_before.new.self.ends c.tell_left_out.new.self.ends
    c.suppose_before.new.self.left_out.items c.args.report.now c.assume_up.new.self c.suppose_before.new.report c.tell_left_out.new.report c.if-self.false
    (ap (λ (j : Joined). j.left_out.items) c.suppose_before.ensures.same) c.in_ok-assume_up.ensures.logged
    (c.in_ok-suppose_before.ensures.items c.args.pair.now) (c.in_ok-tell_left_out.ensures.items c.args.pair.now)

pub returns-in_err-assume_up-clause-refuses : goal.returns-in_err-assume_up-clause-refuses
returns-in_err-assume_up-clause-refuses c =
    let p = err_from_is_err_and c.from_residual.result c.from_residual.ensures.1 in
    rw (p.1, p.2) (up_refused c.args.pair.now c.args.self.now _ c.args.report.now c.assume_up.new.self c.if-self.false c.in_err-assume_up.ensures.refuses)
