use Rattle.capture_tcp.proofs.Ends.{end_is, can_continue}
use Rattle.capture_tcp.proofs.laws.the_end_continues.Goals as goal

pub returns-clause-end : goal.returns-clause-end
returns-clause-end c = end_is

pub returns-clause-queue : goal.returns-clause-queue
returns-clause-queue c = can_continue
