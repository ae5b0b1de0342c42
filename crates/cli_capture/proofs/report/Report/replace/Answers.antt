use Rattle.cli_capture.proofs.Paging.{down_one, never_down}
use Rattle.cli_capture.proofs.Tellings.{log_tells, same_tells}
use Rattle.cli_capture.proofs.report.Report.replace.Goals as goal
use Rattle.cli_capture.proofs.report.Report.replace.Goals.{in-Log-default, in-Verdicts-Some, in-Verdicts-None}

pub returns-clause-emitted : goal.returns-clause-emitted
returns-clause-emitted c = elim c.match-self.branch [
  | in-Log-default w ↦ log_tells c.match-self.result c.args.self.now c.match-self.self w.in-Log-default.journal w.replace.new.self w.replace.new.page
      w.in-Log-default.is-0 w.self-is w.replace.ensures.same
  | in-Verdicts-Some w ↦ same_tells c.match-self.result c.args.self.now c.match-self.self w.self-is
  | in-Verdicts-None w ↦ same_tells c.match-self.result c.args.self.now c.match-self.self w.self-is
]

pub returns-clause-logged : goal.returns-clause-logged
returns-clause-logged c = elim c.match-self.branch [
  | in-Log-default w ↦
      rw w.result-is (down_one w.replace.result w.in-Log-default.journal w.replace.new.self w.replace.new.page c.args.self.now c.match-self.self w.in-Log-default.is-0
      w.self-is w.replace.ensures.emitted w.replace.ensures.begun w.replace.ensures.time w.replace.ensures.same)
  | in-Verdicts-Some w ↦ never_down c.match-self.result c.args.self.now _ w.in-Verdicts-Some.is-0
  | in-Verdicts-None w ↦ never_down c.match-self.result c.args.self.now _ w.in-Verdicts-None.is-0
]
