use Rattle.capture_tcp.proofs.Nearest.{found, near}
use Rattle.capture_tcp.proofs.laws.nearest_is_near.Goals as goal

pub returns-clause-near : goal.returns-clause-near
returns-clause-near c = near

pub returns-clause-found : goal.returns-clause-found
returns-clause-found c = found
