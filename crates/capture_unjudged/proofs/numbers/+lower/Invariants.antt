use Rattle.std.proofs.Common.{length}
use Rattle.capture_unjudged.proofs.numbers.+lower.Given as goal

abbrev pub decreases-lower : goal.decreases-lower
decreases-lower l = length l.numbers.now
