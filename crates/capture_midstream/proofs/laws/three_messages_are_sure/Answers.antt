use Rattle.capture_midstream.proofs.CurrentState.{sure_is_three, three_are_sure}
use Rattle.capture_midstream.proofs.laws.three_messages_are_sure.Goals as goal

pub returns-clause-sure : goal.returns-clause-sure
returns-clause-sure c = sure_is_three

pub returns-clause-stand : goal.returns-clause-stand
returns-clause-stand c = three_are_sure
