use Rattle.explain_statistics.proofs.Halvings.{halved}
use Rattle.explain_statistics.proofs.histogram.place_of.Goals as goal

pub loop-halvings-preserved : goal.loop-halvings-preserved
loop-halvings-preserved c = halved _ _ _ c.if-rest-lt256.false c.loop-halvings.invariant
