use Rattle.std.proofs.Common.{subst}
use Rattle.cli_capture.specs.declared.progress.Progress.{Progress}
use Rattle.cli_capture.specs.InnerMidstreamLog.{Settles}
use Rattle.cli_capture.proofs.Closing.{replaces_never, replaces_ok}
use Rattle.std.proofs.lemmas.Result.{err_from_is_err_and}
use Rattle.cli_capture.proofs.SessionRefusals.{replace_lack_refused, replace_never_refused, replace_settle_refused}
use Rattle.cli_capture.proofs.Tellings.{tells_then}
use Rattle.cli_capture.proofs.Unrefused.{err_map, quiet_in_log}
use Rattle.cli_capture.proofs.midstream_connection.replace.Goals as goal

pub returns-in_ok-replace-in-Proceeds-clause-replaced : goal.returns-in_ok-replace-in-Proceeds-clause-replaced
returns-in_ok-replace-in-Proceeds-clause-replaced c =
    replaces_ok c.conclude.result c.args.pair.now c.args.joined c.settle.new.self c.replace.new.self c.args.report.now c.settle.new.report c.replace.new.report
    c.conclude.new.report
    (subst (λ (x : Progress). Settles c.args.pair.now c.args.joined c.args.report.now x c.settle.new.self c.settle.new.report) c.in-Proceeds.is
    c.in_ok-settle.ensures.settles)
    (record {
      quiet = c.in_ok-replace-in-Proceeds.ensures.quiet;
      replaced = c.in_ok-replace-in-Proceeds.ensures.replaced;
      logged = c.in_ok-replace-in-Proceeds.ensures.logged;
      same = c.replace.ensures.same;
    })
    c.conclude.ensures.once c.conclude.ensures.logged

pub returns-in-Over-clause-replaced : goal.returns-in-Over-clause-replaced
returns-in-Over-clause-replaced c =
    replaces_never c.conclude-in-Over.result c.args.pair.now c.in-Over.shortfall c.args.joined c.settle.new.self c.args.report.now c.settle.new.report
    c.conclude-in-Over.new.report
    (subst (λ (x : Progress). Settles c.args.pair.now c.args.joined c.args.report.now x c.settle.new.self c.settle.new.report) c.in-Over.is
    c.in_ok-settle.ensures.settles)

pub returns-in_err-settle-clause-refuses : goal.returns-in_err-settle-clause-refuses
returns-in_err-settle-clause-refuses c =
    let p = err_from_is_err_and c.from_residual.result c.from_residual.ensures.1 in
    rw (p.1, p.2) (replace_settle_refused c.args.pair.now c.args.joined _ c.args.report.now c.settle.new.report c.in_err-settle.ensures.refuses)

pub returns-in_err-replace-in-Proceeds-clause-refuses : goal.returns-in_err-replace-in-Proceeds-clause-refuses
returns-in_err-replace-in-Proceeds-clause-refuses c =
    let p = err_from_is_err_and c.from_residual-in_err-replace-in-Proceeds.result c.from_residual-in_err-replace-in-Proceeds.ensures.1 in
    rw (p.1, p.2) (quiet_in_log _ c.args.report.now _ c.in_err-replace-in-Proceeds.ensures.unrefused)

pub returns-in_ok-replace-in-Proceeds-clause-refuses : goal.returns-in_ok-replace-in-Proceeds-clause-refuses
returns-in_ok-replace-in-Proceeds-clause-refuses c =
    err_map c.conclude.result
    (λ st. replace_lack_refused c.args.pair.now c.args.joined st c.args.report.now c.replace.new.report c.conclude.new.report
    (tells_then c.args.report.now c.settle.new.report c.replace.new.report c.in_ok-settle.ensures.emitted c.in_ok-replace-in-Proceeds.ensures.emitted)) c.conclude.ensures.refuses

pub returns-in-Over-clause-refuses : goal.returns-in-Over-clause-refuses
returns-in-Over-clause-refuses c =
    err_map c.conclude-in-Over.result
    (λ st refused. replace_never_refused c.args.pair.now c.in-Over.shortfall c.args.joined c.settle.new.self st c.args.report.now c.settle.new.report
    c.conclude-in-Over.new.report
    (subst (λ (x : Progress). Settles c.args.pair.now c.args.joined c.args.report.now x c.settle.new.self c.settle.new.report) c.in-Over.is
    c.in_ok-settle.ensures.settles)) c.conclude-in-Over.ensures.refuses
