use Rattle.explain_session.proofs.RepairRows.{steps_repair}
use Rattle.explain_session.proofs.laws.checked_entry_is_repaired.Goals as goal

pub returns : goal.returns
returns c = steps_repair
