use Rattle.std.proofs.Common.{ap, sym, ◌∙◌}
use Rattle.capture_log.specs.AuditedLog.{CurrentState}
use Rattle.capture_log.proofs.Logs.{says}
use Rattle.capture_log.proofs.audited_log.AuditedLog.verdict.Goals as goal

pub returns-in_ok-verdict-in-Some-clause-gives_verdict : goal.returns-in_ok-verdict-in-Some-clause-gives_verdict
returns-in_ok-verdict-in-Some-clause-gives_verdict c =
    says c.args.self c.in-Some.auditor (record { verdict = c.in_ok-verdict-in-Some.verdict; packet = c.self.inside.failed })
    c.front_of_run_is_run.ensures.next c.each_entry_has_one_answer.ensures.one (ap (λ (s : CurrentState). s.auditor) (sym c.self.view_is) ∙ c.in-Some.is)
    (ap (λ (s : CurrentState). s.failed) c.self.view_is) c.in_ok-verdict-in-Some.ensures
