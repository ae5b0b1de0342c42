use Rattle.std.proofs.Common.{arith}
use Rattle.hsms_log.specs.Auditor.{HasAtMost}
use Rattle.capture_log.proofs.Logs.{some_has}
use Rattle.capture_log.proofs.audited_log.AuditedLog.process_input.Goals as goal

pub invariant_of-self-2 : goal.invariant_of-self-2
invariant_of-self-2 c = (
  c.in_ok-next.ensures.lines c.self.inside.lines
      (some_has c.self.inside.auditor c.in-Some.auditor (λ a. HasAtMost c.self.inside.lines a) (cc) c.self.invariant.0),
  omega (arith, c.if-count-self.false, c.self.invariant.1),
)
