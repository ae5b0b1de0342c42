use Rattle.std.proofs.Common.{◌≡◌, [], subst}
use Rattle.cli_capture.specs.declared.progress.Progress.{Progress}
use Rattle.cli_capture.specs.declared.progress.Progress.TheVariants as progress
use Rattle.cli_capture.specs.InnerMidstreamLog.{Settles}
use Rattle.cli_capture.proofs.Closing.{finishes_never, finishes_ok}
use Rattle.std.proofs.lemmas.Result.{err_from_is_err_and}
use Rattle.cli_capture.proofs.SessionRefusals.{finish_lack_refused, finish_never_refused, finish_settle_refused}
use Rattle.cli_capture.proofs.Unrefused.{err_map}
use Rattle.cli_capture.proofs.midstream_connection.finish.Goals as goal

pub returns-in-Proceeds-clause-finishes : goal.returns-in-Proceeds-clause-finishes
returns-in-Proceeds-clause-finishes c =
    let joined = c.args.joined in
    finishes_ok c.conclude.result c.args.pair.now c.args.shortfall joined c.settle.new.self c.args.report.now c.settle.new.report c.conclude.new.report
    (subst (λ (x : Progress). Settles c.args.pair.now joined c.args.report.now x c.settle.new.self c.settle.new.report) c.in-Proceeds.is c.in_ok-settle.ensures.settles)
    (subst (λ (x : Progress). joined.waiting.items ≡ [] → (x ≡ progress.Proceeds) × (c.settle.new.self ≡ joined) × (c.settle.new.report ≡ c.args.report.now)) c.in-Proceeds.is
    c.in_ok-settle.ensures.nothing)
    c.conclude.ensures.once c.conclude.ensures.logged

pub returns-in-Over-clause-finishes : goal.returns-in-Over-clause-finishes
returns-in-Over-clause-finishes c =
    let joined = c.args.joined in
    finishes_never c.conclude-in-Over.result c.args.pair.now c.args.shortfall c.in-Over.other joined c.settle.new.self c.args.report.now c.settle.new.report
    c.conclude-in-Over.new.report
    (subst (λ (x : Progress). Settles c.args.pair.now joined c.args.report.now x c.settle.new.self c.settle.new.report) c.in-Over.is c.in_ok-settle.ensures.settles)
    (subst (λ (x : Progress). joined.waiting.items ≡ [] → (x ≡ progress.Proceeds) × (c.settle.new.self ≡ joined) × (c.settle.new.report ≡ c.args.report.now)) c.in-Over.is
    c.in_ok-settle.ensures.nothing)

pub returns-in_err-settle-clause-refuses : goal.returns-in_err-settle-clause-refuses
returns-in_err-settle-clause-refuses c =
    let p = err_from_is_err_and c.from_residual.result c.from_residual.ensures.1 in
    rw (p.1, p.2)
    (finish_settle_refused c.args.pair.now c.args.shortfall c.args.joined _ c.args.report.now c.settle.new.report c.in_err-settle.ensures.refuses)

pub returns-in-Proceeds-clause-refuses : goal.returns-in-Proceeds-clause-refuses
returns-in-Proceeds-clause-refuses c =
    let joined = c.args.joined in
    err_map c.conclude.result
    (λ st. finish_lack_refused c.args.pair.now c.args.shortfall joined c.settle.new.self st c.args.report.now c.settle.new.report c.conclude.new.report
    (subst (λ (x : Progress). Settles c.args.pair.now joined c.args.report.now x c.settle.new.self c.settle.new.report) c.in-Proceeds.is c.in_ok-settle.ensures.settles)
    (subst (λ (x : Progress). joined.waiting.items ≡ [] → (x ≡ progress.Proceeds) × (c.settle.new.self ≡ joined) × (c.settle.new.report ≡ c.args.report.now)) c.in-Proceeds.is
    c.in_ok-settle.ensures.nothing)
    c.in_ok-settle.ensures.emitted) c.conclude.ensures.refuses

pub returns-in-Over-clause-refuses : goal.returns-in-Over-clause-refuses
returns-in-Over-clause-refuses c =
    let joined = c.args.joined in
    err_map c.conclude-in-Over.result
    (λ st refused. finish_never_refused c.args.pair.now c.args.shortfall c.in-Over.other joined c.settle.new.self st c.args.report.now c.settle.new.report
    c.conclude-in-Over.new.report
    (subst (λ (x : Progress). Settles c.args.pair.now joined c.args.report.now x c.settle.new.self c.settle.new.report) c.in-Over.is c.in_ok-settle.ensures.settles)
    (subst (λ (x : Progress). joined.waiting.items ≡ [] → (x ≡ progress.Proceeds) × (c.settle.new.self ≡ joined) × (c.settle.new.report ≡ c.args.report.now)) c.in-Over.is
    c.in_ok-settle.ensures.nothing)) c.conclude-in-Over.ensures.refuses
