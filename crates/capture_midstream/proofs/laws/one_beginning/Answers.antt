use Rattle.capture_midstream.proofs.Unique.{one_beginning as one, one_beginning_at_end}
use Rattle.capture_midstream.proofs.laws.one_beginning.Goals as goal

pub returns-clause-one : goal.returns-clause-one
returns-clause-one c = one

pub returns-clause-at_end : goal.returns-clause-at_end
returns-clause-at_end c = one_beginning_at_end
