use Rattle.std.proofs.Common.{[]}
use Rattle.explain_forms.proofs.OutputBuffers.{adds_none, some_then}
use Rattle.explain_forms.proofs.formatter.Emitter.outcomes.Goals as goal

pub loop-place-init : goal.loop-place-init
loop-place-init c = λ is. ([], adds_none _)

pub loop-place-preserved : goal.loop-place-preserved
loop-place-preserved c = λ is. some_then _ _ _ (c.loop-place.invariant is) (c.optional.ensures is)
