use Rattle.std.proofs.Common.{refl, sym, ◌∙◌}
use Rattle.capture_verdicts.proofs.NextEvent.{logs_on, ok_given}
use Rattle.capture_verdicts.proofs.verdict_report.VerdictReport.log.Goals as goal

pub returns-clause-logs : goal.returns-clause-logs
returns-clause-logs c =
    let set = ok_given _ c.insert.result (sym c.is_err.ensures.value ∙ c.if-is_err.false) c.insert.ensures.updates in
    logs_on c.args.pair c.args.item c.args.self.now c.take_logs.new.self _ c.in_ok-both.both c.log.new.self c.in_ok-both.ensures.gone c.in_ok-both.ensures.logs
    c.in_ok-log.ensures.added refl set.0
