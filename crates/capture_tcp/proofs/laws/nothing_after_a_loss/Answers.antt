use Rattle.capture_tcp.proofs.KeptCells.{none_after}
use Rattle.capture_tcp.proofs.laws.nothing_after_a_loss.Goals as goal

pub returns : goal.returns
returns c = none_after
