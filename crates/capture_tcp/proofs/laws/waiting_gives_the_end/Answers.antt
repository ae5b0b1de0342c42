use Rattle.capture_tcp.proofs.Absorbed.{absorb_end, one_end}
use Rattle.capture_tcp.proofs.laws.waiting_gives_the_end.Goals as goal

pub returns-clause-end : goal.returns-clause-end
returns-clause-end c = absorb_end

pub returns-clause-only : goal.returns-clause-only
returns-clause-only c = one_end
