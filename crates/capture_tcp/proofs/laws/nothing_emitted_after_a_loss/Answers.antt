use Rattle.capture_tcp.proofs.EmittedMessages.{nothing_emitted}
use Rattle.capture_tcp.proofs.laws.nothing_emitted_after_a_loss.Goals as goal

pub returns : goal.returns
returns c = nothing_emitted
