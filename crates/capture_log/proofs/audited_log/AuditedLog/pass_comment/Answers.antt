use Rattle.std.proofs.Common.{arith}
use Rattle.hsms_log.specs.Auditor.{HasAtMost}
use Rattle.capture_log.proofs.Logs.{some_has}
use Rattle.capture_log.proofs.audited_log.AuditedLog.pass_comment.Goals as goal

pub invariant_of-self-2 : goal.invariant_of-self-2
invariant_of-self-2 c = (
  c.take_comment.ensures.lines c.self.inside.lines (some_has c.self.inside.auditor c.in-Some.auditor (λ a. HasAtMost c.self.inside.lines a) (cc) c.self.invariant.0),
  omega (arith, c.if-self-ge-GREATEST.false),
)
