use Rattle.std.proofs.Common.{length}
use Rattle.hsms_endpoint.specs.InnerReceiving.{HasReceived}
use Rattle.hsms_endpoint.proofs.state.State.receive_all.Given as goal

abbrev pub invariant-messages : goal.invariant-messages
invariant-messages g l = HasReceived (g.D.TurnDesk.answers_after l.desk) l.fn.self l.fn.entries.items l.self l.entries.items

abbrev pub decreases-messages : goal.decreases-messages
decreases-messages g l = length l.self.framer.pending
