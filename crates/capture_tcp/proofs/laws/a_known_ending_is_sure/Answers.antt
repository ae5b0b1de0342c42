use Rattle.capture_tcp.proofs.LastingFacts.{ending_sure}
use Rattle.capture_tcp.proofs.laws.a_known_ending_is_sure.Goals as goal

pub returns : goal.returns
returns c = ending_sure
