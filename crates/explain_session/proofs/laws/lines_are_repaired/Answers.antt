use Rattle.explain_session.proofs.Ended.{lines_are_repaired}
use Rattle.explain_session.proofs.laws.lines_are_repaired.Goals as goal

pub returns : goal.returns
returns c = lines_are_repaired
