use Rattle.explain_lines.proofs.FailureKinds.{sorts}
use Rattle.explain_lines.proofs.laws.sorts_are_apart.Goals as goal

pub returns : goal.returns
returns c = sorts
