use Rattle.std.proofs.Common.{ap}
use Rattle.hsms_ends.specs.ScriptedLink.{ScriptState, recorded_of}
use Rattle.hsms_ends.proofs.Scripts.{failed, took}
use Rattle.hsms_ends.proofs.scripted.ScriptedLink.send.Goals as goal

pub returns-then-is_spent-clause-sent : goal.returns-then-is_spent-clause-sent
returns-then-is_spent-clause-sent c =
    failed _ _ _ _ _ _ _ _ _ c.args.octets.now (recorded_of c.args.self.now) (ap (λ (s : ScriptState). recorded_of s) c.self.view_is) (λ l h. h) c.saturating_add-self-inside-then-is_spent.ensures

pub returns-in-Ok-clause-sent : goal.returns-in-Ok-clause-sent
returns-in-Ok-clause-sent c =
    took _ _ _ _ _ _ _ _ c.in-Ok.count c.args.octets.now (recorded_of c.args.self.now) (ap (λ (s : ScriptState). recorded_of s) c.self.view_is) c.in-Ok.ensures.octets

pub returns-in-Err-clause-sent : goal.returns-in-Err-clause-sent
returns-in-Err-clause-sent c =
    failed _ _ _ _ _ _ _ _ _ c.args.octets.now (recorded_of c.args.self.now) (ap (λ (s : ScriptState). recorded_of s) c.self.view_is) c.in-Err.ensures.none_written c.saturating_add-self-inside-in-Err.ensures
