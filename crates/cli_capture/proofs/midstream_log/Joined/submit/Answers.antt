use Rattle.std.proofs.lemmas.Result.{err_from_is_err_and}
use Rattle.cli_capture.proofs.SessionRefusals.{tell_refused}
use Rattle.cli_capture.proofs.Sessions.{one_ok}
use Rattle.cli_capture.proofs.Unrefused.{err_map, is_memory_in_log}
use Rattle.cli_capture.proofs.midstream_log.Joined.submit.Goals as goal

pub returns-clause-emits : goal.returns-clause-emits
returns-clause-emits c =
    one_ok c.tell_as.result c.args.pair.now c.args.happening c.in_ok-part.part c.args.self.now c.part_of.new.self c.tell_as.new.self c.args.report.now
    c.tell_as.new.report c.part_of.ensures.same c.in_ok-part.ensures.part c.tell_as.ensures.emits c.tell_as.ensures.same

pub returns-in_err-part-clause-refuses : goal.returns-in_err-part-clause-refuses
returns-in_err-part-clause-refuses c =
    let p = err_from_is_err_and c.from_residual.result c.from_residual.ensures.1 in
    rw (p.1, p.2) (is_memory_in_log _ c.args.report.now _ c.in_err-part.ensures.memory)

pub returns-clause-refuses : goal.returns-clause-refuses
returns-clause-refuses c =
    err_map c.tell_as.result
    (λ st. tell_refused c.args.pair.now c.args.happening c.in_ok-part.part c.args.self.now c.part_of.new.self st c.args.report.now c.tell_as.new.report c.part_of.ensures.same
    c.in_ok-part.ensures.part) c.tell_as.ensures.refuses
