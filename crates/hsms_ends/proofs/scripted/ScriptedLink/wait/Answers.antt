use Rattle.std.proofs.Common.{ap}
use Rattle.hsms_ends.specs.ScriptedLink.{ScriptState, recorded_of}
use Rattle.hsms_ends.proofs.Scripts.{failed, waited}
use Rattle.hsms_ends.proofs.scripted.ScriptedLink.wait.Goals as goal

pub returns-then-is_spent-clause-waits : goal.returns-then-is_spent-clause-waits
returns-then-is_spent-clause-waits c =
    failed _ _ _ _ _ _ _ _ _ c.args.into.now (recorded_of c.args.self.now) (ap (λ (s : ScriptState). recorded_of s) c.self.view_is) (λ l h. h) c.saturating_add-self-inside-then-is_spent.ensures

pub returns-clause-waits : goal.returns-clause-waits
returns-clause-waits c =
    waited _ _ _ _ _ _ _ _ _ _ _ c.answer.new.into c.answer.result (recorded_of c.args.self.now) (ap (λ (s : ScriptState). recorded_of s) c.self.view_is)
    c.answer.ensures.got c.answer.ensures.given c.saturating_add-self-inside-2.ensures c.answer.ensures.closes c.answer.ensures.closed
