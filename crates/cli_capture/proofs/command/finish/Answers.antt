use Rattle.std.proofs.Common.{Ok}
use Rattle.cli_capture.proofs.FileRefusals.{finishes_so}
use Rattle.cli_capture.proofs.Refusing.{ends_told, finishes_refused, told_refused}
use Rattle.cli_capture.proofs.Tellings.{ends_with}
use Rattle.cli_capture.proofs.command.finish.Goals as goal

pub returns-clause-refuses : goal.returns-clause-refuses
returns-clause-refuses g c =
    λ refusal verdicts.
    finishes_refused c.args.missing c.args.table c.args.report c.conclude-well.new.report _ _ c.in-Err.stop c.error_of.result
    (c.in-Err.ensures.refuses (told_refused c.in-Err.stop c.error_of.result c.error_of.ensures refusal) verdicts)
    c.error_of.ensures c.in_ok-put_out.ensures.ok refusal

pub returns-clause-emitted : goal.returns-clause-emitted
returns-clause-emitted g c =
    ends_told c.args.missing c.args.report c.conclude-well.new.report _ _ c.in-Err.stop c.error_of.result c.in-Err.ensures.emitted
    c.error_of.ensures c.in_ok-put_out.ensures.ok

pub returns-clause-stops : goal.returns-clause-stops
returns-clause-stops g c =
    finishes_so c.args.missing c.args.table c.args.report c.conclude-well.new.report _ _ c.in-Err.stop c.error_of.result c.in-Err.ensures.stops
    c.error_of.ensures c.in_ok-put_out.ensures.ok

pub returns-in-Ok-clause-lines : goal.returns-in-Ok-clause-lines
returns-in-Ok-clause-lines g c =
    ends_with c.args.missing c.args.report c.conclude-well.new.report _ _ (Ok c.in-Ok.well) (Ok c.in-Ok.well) c.in-Ok.ensures.lines
    (λ found finishes. finishes) c.in_ok-put_out.ensures.ok
