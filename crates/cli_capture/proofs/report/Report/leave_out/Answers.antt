use Rattle.std.proofs.Common.{refl}
use Rattle.cli_capture.proofs.Tellings.{log_tells, same_tells}
use Rattle.capture_log.specs.declared.audited_log.LogComment.TheVariants as remark
use Rattle.capture_log.specs.BothLogs.{remark_alone}
use Rattle.cli_capture.specs.MidstreamItems.{leaves_out}
use Rattle.cli_capture.proofs.Taking.{more_ok, never_takes, comment_alone, ok_first, ok_of, ok_second, takes_in_log, takes_in_verdicts}
use Rattle.cli_capture.proofs.report.Report.leave_out.Goals as goal
use Rattle.cli_capture.proofs.report.Report.leave_out.Goals.{in-Log-default, in-Verdicts-Some, in-Verdicts-None}

pub returns-clause-emitted : goal.returns-clause-emitted
returns-clause-emitted c = elim c.match-self.branch [
  | in-Log-default w ↦ log_tells c.match-self.result c.args.self.now c.match-self.self w.in-Log-default.journal w.in-Log-default.journal w.leave_out.new.page
      w.in-Log-default.is-0 w.self-is (refl, refl)
  | in-Verdicts-Some w ↦ same_tells c.match-self.result c.args.self.now c.match-self.self w.self-is
  | in-Verdicts-None w ↦ same_tells c.match-self.result c.args.self.now c.match-self.self w.self-is
]

pub returns-clause-logged : goal.returns-clause-logged
returns-clause-logged c = λ pair.
    let old = c.args.self.now in
    let x = leaves_out c.args.packet in
    elim c.match-self.branch [
      | in-Log-default w ↦
          rw w.result-is (takes_in_log w.leave_out.result pair x (remark_alone (remark.LeftOut c.args.packet)) c.args.ends.now
          c.match-self.ends w.in-Log-default.journal w.in-Log-default.journal w.leave_out.new.page old c.match-self.self w.in-Log-default.is-0 w.self-is
          (ok_of w.leave_out.result tt) refl (comment_alone w.leave_out.result _ _ (remark.LeftOut c.args.packet) w.leave_out.ensures.emitted)
          (ok_of w.leave_out.result refl) (ok_of w.leave_out.result refl) (refl, refl))
      | in-Verdicts-Some w ↦
          takes_in_verdicts c.match-self.result pair x c.args.ends.now c.match-self.ends old c.match-self.self w.self-is w.in-Verdicts-Some.is-0
          (λ verdicts. rw w.result-is (more_ok w.leave_out-in-Verdicts-Some.result old.active old.passive x c.args.ends.now c.begin.new.ends c.match-self.ends
          w.in-Verdicts-Some.ends _ w.deref_mut.result.now (remark_alone (remark.LeftOut c.args.packet)) (remark_alone (remark.LeftOut c.args.packet)) (c.in_ok-begin.ensures.begins verdicts) w.in-Verdicts-Some.is-1
          w.ends-is w.deref_mut.ensures.value refl refl w.leave_out-in-Verdicts-Some.ensures.active
          w.leave_out-in-Verdicts-Some.ensures.passive (ok_first _ _ w.leave_out-in-Verdicts-Some.result w.leave_out-in-Verdicts-Some.ensures.same) (ok_second _ _ w.leave_out-in-Verdicts-Some.result w.leave_out-in-Verdicts-Some.ensures.same)))
      | in-Verdicts-None w ↦
          never_takes c.match-self.result pair x c.args.ends.now c.begin.new.ends c.match-self.ends old c.match-self.self c.in_ok-begin.ensures.begins
          w.in-Verdicts-None.is-1 w.in-Verdicts-None.is-0
    ]
