use Rattle.capture_tcp.proofs.VisibleMessages.{all_shown, any_same}
use Rattle.capture_tcp.proofs.laws.any_segments_give_the_same.Goals as goal

pub returns-clause-all : goal.returns-clause-all
returns-clause-all c = all_shown

pub returns-clause-same : goal.returns-clause-same
returns-clause-same c = any_same
