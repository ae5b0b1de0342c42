use Rattle.std.proofs.Common.{sym}
use Rattle.std.proofs.lemmas.Result.{err_from_is_err_and}
use Rattle.cli_capture.proofs.SessionRefusals.{part_never, part_refused}
use Rattle.cli_capture.proofs.Sessions.{end_ok, left_ok, ok_map, tells_message}
use Rattle.cli_capture.proofs.Tellings.{tells_nothing}
use Rattle.cli_capture.proofs.Unrefused.{err_map, err_quiet, quiet_in_log}
use Rattle.cli_capture.proofs.midstream_log.Joined.tell_as.Goals as goal

pub returns-in_ok-come_up-in-Message-clause-emits : goal.returns-in_ok-come_up-in-Message-clause-emits
returns-in_ok-come_up-in-Message-clause-emits c =
    ok_map c.tell_up.result
    (λ progress processes_input. tells_message c.args.pair.now c.args.part c.args.happening progress c.args.self.now c.come_up.new.self c.tell_up.new.self c.args.report.now
    c.come_up.new.report c.tell_up.new.report (sym c.in-Message.is) c.in_ok-come_up-in-Message.ensures.items c.in_ok-come_up-in-Message.ensures.same
    c.in_ok-come_up-in-Message.ensures.left c.in_ok-come_up-in-Message.ensures.none processes_input c.tell_up.ensures.same) c.tell_up.ensures.processes_input

pub returns-in-LeftOut-clause-emits : goal.returns-in-LeftOut-clause-emits
returns-in-LeftOut-clause-emits c =
    left_ok c.leave_out.result c.args.pair.now c.args.part c.args.happening c.args.self.now c.leave_out.new.self c.args.report.now c.leave_out.new.report
    (sym c.in-LeftOut.is) c.leave_out.ensures.proceeds (c.leave_out.ensures.items c.args.pair.now) c.leave_out.ensures.left c.leave_out.ensures.same

pub returns-in-End-clause-emits : goal.returns-in-End-clause-emits
returns-in-End-clause-emits c =
    end_ok c.emit_end.result c.args.pair.now c.args.part c.args.happening c.args.self.now c.emit_end.new.self c.args.report.now c.emit_end.new.report
    (sym c.in-End.is) c.emit_end.ensures.processes_input c.emit_end.ensures.never c.emit_end.ensures.same

pub returns-in_err-come_up-in-Message-clause-refuses : goal.returns-in_err-come_up-in-Message-clause-refuses
returns-in_err-come_up-in-Message-clause-refuses c =
    let p = err_from_is_err_and c.from_residual.result c.from_residual.ensures.1 in
    rw (p.1, p.2)
    (part_refused c.args.pair.now c.args.part c.args.happening c.args.self.now _ c.args.report.now c.come_up.new.report c.in-Message.is
    c.in_err-come_up-in-Message.ensures.refuses)

pub returns-in_ok-come_up-in-Message-clause-refuses : goal.returns-in_ok-come_up-in-Message-clause-refuses
returns-in_ok-come_up-in-Message-clause-refuses c =
    err_map c.tell_up.result
    (λ st processes_input. part_never c.args.pair.now c.args.part c.args.happening c.args.self.now st c.args.report.now c.come_up.new.report c.tell_up.new.report
    c.in_ok-come_up-in-Message.ensures.emitted processes_input) c.tell_up.ensures.refuses

pub returns-in-LeftOut-clause-unrefused : goal.returns-in-LeftOut-clause-unrefused
returns-in-LeftOut-clause-unrefused c = err_quiet c.leave_out.result c.args.report.now c.leave_out.ensures.unrefused

pub returns-in-LeftOut-clause-refuses : goal.returns-in-LeftOut-clause-refuses
returns-in-LeftOut-clause-refuses c = err_map c.leave_out.result (λ st none. quiet_in_log st c.args.report.now _ none) c.leave_out.ensures.unrefused

pub returns-in-End-clause-refuses : goal.returns-in-End-clause-refuses
returns-in-End-clause-refuses c =
    err_map c.emit_end.result
    (λ st processes_input. part_never c.args.pair.now c.args.part c.args.happening c.args.self.now st c.args.report.now c.args.report.now c.emit_end.new.report
    (tells_nothing c.args.report.now) processes_input) c.emit_end.ensures.refuses
