use Rattle.std.proofs.Common.{ap}
use Rattle.hsms_ends.specs.ScriptedLink.{ScriptState, recorded_of}
use Rattle.hsms_ends.proofs.Scripts.{asked}
use Rattle.hsms_ends.proofs.scripted.ScriptedLink.now.Goals as goal

pub returns-clause-asks : goal.returns-clause-asks
returns-clause-asks c =
    asked c.self.inside.moments.items c.self.inside.asked c.saturating_add-self-inside.result _ _ _ _ _ _ _ (recorded_of c.args.self.now)
    (ap (λ (s : ScriptState). recorded_of s) c.self.view_is) c.saturating_add-self-inside.ensures (rw c.deref.ensures.value at c.moment_of-moment.ensures)
