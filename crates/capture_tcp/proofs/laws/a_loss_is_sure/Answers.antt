use Rattle.capture_tcp.proofs.Numbered.{loss_sure, settled_sure}
use Rattle.capture_tcp.proofs.laws.a_loss_is_sure.Goals as goal

pub returns-clause-settled : goal.returns-clause-settled
returns-clause-settled c = settled_sure

pub returns-clause-lost : goal.returns-clause-lost
returns-clause-lost c = loss_sure
