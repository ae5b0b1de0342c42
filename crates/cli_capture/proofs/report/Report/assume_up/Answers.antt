use Rattle.cli_capture.proofs.Tellings.{log_tells, same_tells}
use Rattle.std.proofs.Common.{max, refl}
use Rattle.hsms_machine.specs.declared.entry.Event.TheVariants.{Up}
use Rattle.capture_log.specs.declared.audited_log.LogComment.TheVariants as remark
use Rattle.capture_log.specs.BothLogs.{note_of}
use Rattle.cli_capture.specs.MidstreamItems.{comes_up}
use Rattle.cli_capture.proofs.SessionRefusals.{cant_refused, never_cant}
use Rattle.cli_capture.proofs.Taking.{more_ok, never_takes, ok_of, takes_in_log, takes_in_verdicts}
use Rattle.cli_capture.proofs.report.Report.assume_up.Goals as goal
use Rattle.cli_capture.proofs.report.Report.assume_up.Goals.{in-Log-default, in-Verdicts-Some, in-Verdicts-None}

pub returns-clause-emitted : goal.returns-clause-emitted
returns-clause-emitted c = elim c.match-self.branch [
  | in-Log-default w ↦ log_tells c.match-self.result c.args.self.now c.match-self.self w.in-Log-default.journal w.assume_up.new.self w.assume_up.new.page
      w.in-Log-default.is-0 w.self-is w.assume_up.ensures.same
  | in-Verdicts-Some w ↦ same_tells c.match-self.result c.args.self.now c.match-self.self w.self-is
  | in-Verdicts-None w ↦ same_tells c.match-self.result c.args.self.now c.match-self.self w.self-is
]

pub returns-clause-logged : goal.returns-clause-logged
returns-clause-logged c =
    let old = c.args.self.now in
    let x = comes_up c.args.start.time in
    elim c.match-self.branch [
      | in-Log-default w ↦
          rw w.result-is (takes_in_log w.assume_up.result c.args.pair.now x (note_of remark.Assumption (max w.in-Log-default.journal.time c.args.start.time) Up) c.args.ends.now
          c.match-self.ends w.in-Log-default.journal w.assume_up.new.self w.assume_up.new.page old c.match-self.self w.in-Log-default.is-0 w.self-is
          w.assume_up.ensures.may refl w.assume_up.ensures.emitted w.assume_up.ensures.begun (ok_of w.assume_up.result w.assume_up.ensures.time)
          w.assume_up.ensures.same)
      | in-Verdicts-Some w ↦
          takes_in_verdicts c.match-self.result c.args.pair.now x c.args.ends.now c.match-self.ends old c.match-self.self w.self-is w.in-Verdicts-Some.is-0
          (λ verdicts. rw w.result-is (more_ok w.assume_up-in-Verdicts-Some.result old.active old.passive x c.args.ends.now c.begin.new.ends c.match-self.ends
          w.in-Verdicts-Some.ends _ w.deref_mut.result.now (note_of remark.Assumption (max w.deref_mut.result.now.time c.args.start.time) Up) (note_of remark.Assumption (max w.deref_mut.result.now.time c.args.start.time) Up) (c.in_ok-begin.ensures.begins verdicts) w.in-Verdicts-Some.is-1
          w.ends-is w.deref_mut.ensures.value refl refl w.assume_up-in-Verdicts-Some.ensures.active
          w.assume_up-in-Verdicts-Some.ensures.passive w.assume_up-in-Verdicts-Some.ensures.time w.assume_up-in-Verdicts-Some.ensures.max))
      | in-Verdicts-None w ↦
          never_takes c.match-self.result c.args.pair.now x c.args.ends.now c.begin.new.ends c.match-self.ends old c.match-self.self c.in_ok-begin.ensures.begins
          w.in-Verdicts-None.is-1 w.in-Verdicts-None.is-0
    ]

pub returns-clause-refuses : goal.returns-clause-refuses
returns-clause-refuses c = elim c.match-self.branch [
  | in-Log-default w ↦
      rw w.result-is (cant_refused w.assume_up.result c.args.pair.now c.args.start w.in-Log-default.journal w.assume_up.new.self w.assume_up.new.page c.args.self.now
      c.match-self.self w.in-Log-default.is-0 w.self-is w.assume_up.ensures.stops w.assume_up.ensures.kept)
  | in-Verdicts-Some w ↦ never_cant c.match-self.result c.args.pair.now c.args.start c.args.self.now c.match-self.self w.in-Verdicts-Some.is-0
  | in-Verdicts-None w ↦ never_cant c.match-self.result c.args.pair.now c.args.start c.args.self.now c.match-self.self w.in-Verdicts-None.is-0
]
