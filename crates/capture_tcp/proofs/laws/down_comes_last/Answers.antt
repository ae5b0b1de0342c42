use Rattle.capture_tcp.proofs.UpToDown.{last_is_down}
use Rattle.capture_tcp.proofs.laws.down_comes_last.Goals as goal

pub returns : goal.returns
returns c = last_is_down
