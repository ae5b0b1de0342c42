use Rattle.std.proofs.Common.{◌≡◌, ℕ, List, ap}
use Rattle.hsms_frame.specs.Frame.{Frame}
use Rattle.capture_log.specs.declared.written_log.WrittenLog.{WrittenLog}
use Rattle.cli_capture.proofs.Tellings.{log_tells, same_tells}
use Rattle.capture_log.specs.declared.audited_log.LogComment.TheVariants as remark
use Rattle.capture_log.specs.AuditedLog.{note_text}
use Rattle.capture_log.specs.BothLogs.{event_of, note_of}
use Rattle.capture_tcp.specs.declared.packet.Side.TheVariants as side
use Rattle.cli_capture.specs.MidstreamItems.{bare_frame, supposes}
use Rattle.cli_capture.proofs.Taking.{more_ok, never_takes, subsequent_none, ok_first, ok_of, ok_second, takes_in_log, takes_in_verdicts}
use Rattle.cli_capture.proofs.report.Report.assume_message.Goals as goal
use Rattle.cli_capture.proofs.report.Report.assume_message.Goals.{in-Log-default, in-Verdicts-Some, in-Verdicts-None}

pub returns-clause-emitted : goal.returns-clause-emitted
returns-clause-emitted c = elim c.match-self.branch [
  | in-Log-default w ↦ log_tells c.match-self.result c.args.self.now c.match-self.self w.in-Log-default.journal w.assume_message.new.self w.assume_message.new.page
      w.in-Log-default.is-0 w.self-is (ap (λ (x : WrittenLog). x.settings) w.assume_message.ensures.same, ap (λ (x : WrittenLog). x.side) w.assume_message.ensures.same)
  | in-Verdicts-Some w ↦ same_tells c.match-self.result c.args.self.now c.match-self.self w.self-is
  | in-Verdicts-None w ↦ same_tells c.match-self.result c.args.self.now c.match-self.self w.self-is
]

pub returns-clause-logged : goal.returns-clause-logged
returns-clause-logged c = λ pair.
    let old = c.args.self.now in
    let x = supposes c.args.from c.args.header in
    let f : Frame = record { header = c.args.header; text = c.new.result.items } in
    let bare : f ≡ bare_frame c.args.header =
    ap (λ (xs : List ℕ). (let g : Frame = record { header = c.args.header; text = xs } in g)) c.new.ensures.items in
    elim c.match-self.branch [
      | in-Log-default w ↦
          rw w.result-is (takes_in_log w.assume_message.result pair x
          (note_of remark.Assumption w.in-Log-default.journal.time (event_of w.in-Log-default.journal.side c.args.from f)) c.args.ends.now
          c.match-self.ends w.in-Log-default.journal w.assume_message.new.self w.assume_message.new.page old c.match-self.self w.in-Log-default.is-0 w.self-is
          (ok_of w.assume_message.result tt)
          (ap (λ (g : Frame). note_of remark.Assumption w.in-Log-default.journal.time (event_of w.in-Log-default.journal.side c.args.from g)) bare)
          (subsequent_none w.assume_message.result w.assume_message.new.page.octets old.page.octets
          (note_text (note_of remark.Assumption w.in-Log-default.journal.time (event_of w.in-Log-default.journal.side c.args.from f)))
          w.assume_message.ensures.emitted)
          (ok_of w.assume_message.result (ap (λ (x : WrittenLog). x.begun) w.assume_message.ensures.same))
          (ok_of w.assume_message.result (ap (λ (x : WrittenLog). x.time) w.assume_message.ensures.same))
          (ap (λ (x : WrittenLog). x.settings) w.assume_message.ensures.same, ap (λ (x : WrittenLog). x.side) w.assume_message.ensures.same))
      | in-Verdicts-Some w ↦
          takes_in_verdicts c.match-self.result pair x c.args.ends.now c.match-self.ends old c.match-self.self w.self-is w.in-Verdicts-Some.is-0
          (λ verdicts. rw w.result-is (more_ok w.assume_message-in-Verdicts-Some.result old.active old.passive x c.args.ends.now c.begin.new.ends c.match-self.ends
          w.in-Verdicts-Some.ends _ w.deref_mut.result.now (note_of remark.Assumption w.deref_mut.result.now.time (event_of side.Active c.args.from f)) (note_of remark.Assumption w.deref_mut.result.now.time (event_of side.Passive c.args.from f)) (c.in_ok-begin.ensures.begins verdicts) w.in-Verdicts-Some.is-1
          w.ends-is w.deref_mut.ensures.value (ap (λ (g : Frame). note_of remark.Assumption w.deref_mut.result.now.time (event_of side.Active c.args.from g)) bare)
          (ap (λ (g : Frame). note_of remark.Assumption w.deref_mut.result.now.time (event_of side.Passive c.args.from g)) bare) w.assume_message-in-Verdicts-Some.ensures.active
          w.assume_message-in-Verdicts-Some.ensures.passive (ok_first _ _ w.assume_message-in-Verdicts-Some.result w.assume_message-in-Verdicts-Some.ensures.same) (ok_second _ _ w.assume_message-in-Verdicts-Some.result w.assume_message-in-Verdicts-Some.ensures.same)))
      | in-Verdicts-None w ↦
          never_takes c.match-self.result pair x c.args.ends.now c.begin.new.ends c.match-self.ends old c.match-self.self c.in_ok-begin.ensures.begins
          w.in-Verdicts-None.is-1 w.in-Verdicts-None.is-0
    ]
