use Rattle.capture_tcp.proofs.UpToDown.{first_is_up, only_first_is_up}
use Rattle.capture_tcp.proofs.laws.up_comes_first.Goals as goal

pub returns-clause-first : goal.returns-clause-first
returns-clause-first c = first_is_up

pub returns-clause-only : goal.returns-clause-only
returns-clause-only c = only_first_is_up
