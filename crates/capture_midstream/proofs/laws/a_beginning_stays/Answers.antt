use Rattle.capture_midstream.proofs.Unique.{sure_at_end}
use Rattle.capture_midstream.proofs.Staying.{sure_stays}
use Rattle.capture_midstream.proofs.laws.a_beginning_stays.Goals as goal

pub returns-clause-stays : goal.returns-clause-stays
returns-clause-stays c = sure_stays

pub returns-clause-at_end : goal.returns-clause-at_end
returns-clause-at_end c = sure_at_end
