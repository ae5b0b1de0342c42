use Rattle.capture_tcp.proofs.KeptCells.{kept}
use Rattle.capture_tcp.proofs.laws.streams_are_kept.Goals as goal

pub returns : goal.returns
returns c = kept
