use Rattle.std.proofs.Common.{◌≡◌}
use Rattle.cli_capture.specs.declared.report.OutputMode.TheVariants.{Verdicts}
use Rattle.cli_capture.proofs.Following.{heard_ok, never_ok, none_ok}
use Rattle.cli_capture.proofs.Paging.{logs_one, never_logged}
use Rattle.cli_capture.proofs.Refusals.{hears_refused, never_hears}
use Rattle.cli_capture.proofs.Taking.{hears_in_log, hears_never, hears_verdicts}
use Rattle.cli_capture.proofs.Tellings.{log_tells, same_tells}
use Rattle.cli_capture.proofs.report.Report.process_input.Goals as goal
use Rattle.cli_capture.proofs.report.Report.process_input.Goals.{in-Log-default, in-Verdicts-Some, in-Verdicts-None+in-Message-1, in-Verdicts-None+in-Up-1}

pub returns-clause-emitted : goal.returns-clause-emitted
returns-clause-emitted c = elim c.match-self.branch [
  | in-Log-default w ↦ log_tells c.match-self.result c.args.self.now c.match-self.self w.in-Log-default.journal w.process_input.new.self w.process_input.new.page
      w.in-Log-default.is-0 w.self-is w.process_input.ensures.same
  | in-Verdicts-Some w ↦ same_tells c.match-self.result c.args.self.now c.match-self.self w.self-is
  | in-Verdicts-None+in-Message-1 w ↦ same_tells c.match-self.result c.args.self.now c.match-self.self w.self-is
  | in-Verdicts-None+in-Up-1 w ↦ same_tells c.match-self.result c.args.self.now c.match-self.self w.self-is
]

pub returns-clause-reception : goal.returns-clause-reception
returns-clause-reception c =
    let verdicts = c.args.self.now.manner ≡ Verdicts in
    elim c.match-self.branch [
      | in-Log-default w ↦
          never_ok c.match-self.result verdicts _ (λ (v : c.args.self.now.manner ≡ Verdicts). let no : ⊥ = (let log = w.in-Log-default.is-0 in cc) in no)
      | in-Verdicts-Some w ↦
          rw (w.result-is, w.ends-is) (heard_ok w.process_input-in-Verdicts-Some.result verdicts c.args.self.now.active c.args.self.now.passive c.args.happening c.args.ends.now
          c.begin.new.ends w.in-Verdicts-Some.ends _ w.deref_mut.result.now c.in_ok-begin.ensures.begins w.in-Verdicts-Some.is-1 w.deref_mut.ensures.value
          w.process_input-in-Verdicts-Some.ensures.active w.process_input-in-Verdicts-Some.ensures.passive w.process_input-in-Verdicts-Some.ensures.answer
          w.process_input-in-Verdicts-Some.ensures.time w.process_input-in-Verdicts-Some.ensures.max)
      | in-Verdicts-None+in-Message-1 w ↦
          none_ok c.match-self.result verdicts c.args.self.now.active c.args.self.now.passive c.args.happening c.args.ends.now c.begin.new.ends c.match-self.ends
          c.in_ok-begin.ensures.begins w.in-Verdicts-None.is-1
      | in-Verdicts-None+in-Up-1 w ↦
          none_ok c.match-self.result verdicts c.args.self.now.active c.args.self.now.passive c.args.happening c.args.ends.now c.begin.new.ends c.match-self.ends
          c.in_ok-begin.ensures.begins w.in-Verdicts-None.is-1
    ]

pub returns-clause-logged : goal.returns-clause-logged
returns-clause-logged c = elim c.match-self.branch [
  | in-Log-default w ↦
      rw w.result-is (logs_one w.process_input.result c.args.pair.now c.args.happening w.in-Log-default.journal w.process_input.new.self w.process_input.new.page c.args.self.now c.match-self.self
      w.in-Log-default.is-0 w.self-is w.process_input.ensures.emitted w.process_input.ensures.answer w.process_input.ensures.may w.process_input.ensures.begun w.process_input.ensures.time w.process_input.ensures.same)
  | in-Verdicts-Some w ↦ never_logged c.match-self.result c.args.self.now _ w.in-Verdicts-Some.is-0
  | in-Verdicts-None+in-Message-1 w ↦ never_logged c.match-self.result c.args.self.now _ w.in-Verdicts-None.is-0
  | in-Verdicts-None+in-Up-1 w ↦ never_logged c.match-self.result c.args.self.now _ w.in-Verdicts-None.is-0
]

pub returns-clause-refuses : goal.returns-clause-refuses
returns-clause-refuses c = elim c.match-self.branch [
  | in-Log-default w ↦
      rw w.result-is (hears_refused w.process_input.result c.args.pair.now c.args.happening w.in-Log-default.journal w.process_input.new.self w.process_input.new.page c.args.self.now c.match-self.self
      w.in-Log-default.is-0 w.self-is w.process_input.ensures.stops w.process_input.ensures.kept)
  | in-Verdicts-Some w ↦ never_hears c.match-self.result c.args.pair.now c.args.happening c.args.self.now c.match-self.self w.in-Verdicts-Some.is-0
  | in-Verdicts-None+in-Message-1 w ↦ never_hears c.match-self.result c.args.pair.now c.args.happening c.args.self.now c.match-self.self w.in-Verdicts-None.is-0
  | in-Verdicts-None+in-Up-1 w ↦ never_hears c.match-self.result c.args.pair.now c.args.happening c.args.self.now c.match-self.self w.in-Verdicts-None.is-0
]

pub returns-clause-item : goal.returns-clause-item
returns-clause-item c =
    let old = c.args.self.now in
    let h = c.args.happening in
    elim c.match-self.branch [
      | in-Log-default w ↦
          rw w.result-is (hears_in_log w.process_input.result c.args.pair.now h c.args.ends.now c.match-self.ends w.in-Log-default.journal old c.match-self.self w.in-Log-default.is-0
          (logs_one w.process_input.result c.args.pair.now h w.in-Log-default.journal w.process_input.new.self w.process_input.new.page old c.match-self.self w.in-Log-default.is-0 w.self-is
          w.process_input.ensures.emitted w.process_input.ensures.answer w.process_input.ensures.may w.process_input.ensures.begun w.process_input.ensures.time w.process_input.ensures.same))
      | in-Verdicts-Some w ↦
          rw w.result-is (hears_verdicts w.process_input-in-Verdicts-Some.result c.args.pair.now h c.args.ends.now c.begin.new.ends c.match-self.ends w.in-Verdicts-Some.ends _
          w.deref_mut.result.now old w.in-Verdicts-Some.is-0 c.in_ok-begin.ensures.begins w.in-Verdicts-Some.is-1 w.ends-is w.deref_mut.ensures.value
          w.process_input-in-Verdicts-Some.ensures.active w.process_input-in-Verdicts-Some.ensures.passive w.process_input-in-Verdicts-Some.ensures.answer
          w.process_input-in-Verdicts-Some.ensures.time w.process_input-in-Verdicts-Some.ensures.max c.match-self.self w.self-is)
      | in-Verdicts-None+in-Message-1 w ↦
          hears_never c.match-self.result c.args.pair.now h c.args.ends.now c.begin.new.ends c.match-self.ends old c.match-self.self c.in_ok-begin.ensures.begins
          w.in-Verdicts-None.is-1 w.in-Verdicts-None.is-0
      | in-Verdicts-None+in-Up-1 w ↦
          hears_never c.match-self.result c.args.pair.now h c.args.ends.now c.begin.new.ends c.match-self.ends old c.match-self.self c.in_ok-begin.ensures.begins
          w.in-Verdicts-None.is-1 w.in-Verdicts-None.is-0
    ]
