use Rattle.explain_statistics.proofs.Outcomes.{add_up}
use Rattle.explain_statistics.proofs.laws.fates_add_up.Goals as goal

pub returns : goal.returns
returns c = add_up
