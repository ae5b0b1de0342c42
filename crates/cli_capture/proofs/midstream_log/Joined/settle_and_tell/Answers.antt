use Rattle.std.proofs.Common.{subst}
use Rattle.cli_capture.specs.declared.progress.Progress.{Progress}
use Rattle.cli_capture.specs.InnerMidstreamLog.{Settles}
use Rattle.std.proofs.lemmas.Result.{err_from_is_err_and}
use Rattle.cli_capture.proofs.SessionRefusals.{end_settle_refused, end_tell_refused}
use Rattle.cli_capture.proofs.Unrefused.{err_map}
use Rattle.cli_capture.proofs.Sessions.{ok_map, settles_never, settles_then}
use Rattle.cli_capture.proofs.midstream_log.Joined.settle_and_tell.Goals as goal

pub returns-in-Proceeds-clause-emits : goal.returns-in-Proceeds-clause-emits
returns-in-Proceeds-clause-emits c =
    ok_map c.submit.result
    (λ progress. settles_then c.args.pair.now c.args.happening progress c.args.self.now c.settle.new.self c.submit.new.self c.args.report.now c.settle.new.report c.submit.new.report
    (subst (λ (x : Progress). Settles c.args.pair.now c.args.self.now c.args.report.now x c.settle.new.self c.settle.new.report) c.in-Proceeds.is c.in_ok-settle.ensures.settles))
    c.submit.ensures.emits

pub returns-in-Over-clause-emits : goal.returns-in-Over-clause-emits
returns-in-Over-clause-emits c =
    settles_never c.args.pair.now c.args.happening c.in-Over.shortfall c.args.self.now c.settle.new.self c.args.report.now c.settle.new.report
    (subst (λ (x : Progress). Settles c.args.pair.now c.args.self.now c.args.report.now x c.settle.new.self c.settle.new.report) c.in-Over.is c.in_ok-settle.ensures.settles)

pub returns-in_err-settle-clause-refuses : goal.returns-in_err-settle-clause-refuses
returns-in_err-settle-clause-refuses c =
    let p = err_from_is_err_and c.from_residual.result c.from_residual.ensures.1 in
    rw (p.1, p.2) (end_settle_refused c.args.pair.now c.args.happening c.args.self.now _ c.args.report.now c.settle.new.report c.in_err-settle.ensures.refuses)

pub returns-in-Proceeds-clause-refuses : goal.returns-in-Proceeds-clause-refuses
returns-in-Proceeds-clause-refuses c =
    err_map c.submit.result
    (λ st. end_tell_refused c.args.pair.now c.args.happening c.args.self.now c.settle.new.self st c.args.report.now c.settle.new.report c.submit.new.report
    (subst (λ (x : Progress). Settles c.args.pair.now c.args.self.now c.args.report.now x c.settle.new.self c.settle.new.report) c.in-Proceeds.is c.in_ok-settle.ensures.settles)
    c.in_ok-settle.ensures.emitted c.in_ok-settle.ensures.quiet) c.submit.ensures.refuses
