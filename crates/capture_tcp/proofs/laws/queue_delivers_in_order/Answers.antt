use Rattle.capture_tcp.proofs.Queue.{can_continue, stays, takes}
use Rattle.capture_tcp.proofs.laws.queue_delivers_in_order.Goals as goal

pub returns-clause-frees : goal.returns-clause-frees
returns-clause-frees c = can_continue

pub returns-clause-takes : goal.returns-clause-takes
returns-clause-takes c = takes

pub returns-clause-stays : goal.returns-clause-stays
returns-clause-stays c = stays
