use Rattle.std.proofs.Common.{ap}
use Rattle.explain_session.specs.RepairedSession.{CurrentState}
use Rattle.explain_session.proofs.RepairedSessions.{checks_broken, checks_valid}
use Rattle.explain_session.proofs.repaired_session.RepairedSession.judge.Goals.{in-None, in-Some}
use Rattle.explain_session.proofs.repaired_session.RepairedSession.judge.Goals as goal

pub returns-clause-check_result : goal.returns-clause-check_result
returns-clause-check_result c = elim c.match-branch-2.branch [
  | in-None w ↦ checks_valid c.args.self.now c.step.new.self c.args.entry.now c.in_ok-step.field-0 c.closed_by-closed.result c.match-branch-2.result
      w.result-is w.in-None.is c.in_ok-step.ensures.answer c.in_ok-step.ensures.is_valid c.closed_by-closed.ensures
  | in-Some w ↦ checks_broken c.args.self.now c.step.new.self c.args.entry.now c.in_ok-step.field-0
      (record { rule = w.in-Some.rule; concerns = w.concerned.result; repair_action = w.repair_action.result }) c.self.inside.tracker c.match-branch-2.result
      w.result-is w.in-Some.is c.in_ok-step.ensures.answer c.in_ok-step.ensures.broken w.concerned.ensures
      (ap (λ (s : CurrentState). s.tracker) c.self.view_is) w.repair_action.ensures
]
