use Rattle.cli_capture.proofs.Counted.{emits_by}
use Rattle.cli_capture.proofs.report.Report.submit.Goals as goal

pub returns-in-Verdicts-Some-clause-lines : goal.returns-in-Verdicts-Some-clause-lines
returns-in-Verdicts-Some-clause-lines c =
    emits_by c.tell_verdicts.result c.args.self.now.manner c.args.pair.now c.args.shortfall c.args.ends c.in-Verdicts-Some.ends
    c.args.self.now c.tell_verdicts.new.self c.in-Verdicts-Some.is-0 c.in-Verdicts-Some.is-1 c.tell_verdicts.ensures.lines
