use Rattle.std.proofs.Common.{[]}
use Rattle.explain_forms.proofs.OutputBuffers.{adds_none, some_then}
use Rattle.explain_forms.proofs.formatter.Emitter.rests.Goals as goal

pub loop-group-init : goal.loop-group-init
loop-group-init c = λ is. ([], adds_none _)

pub loop-group-preserved : goal.loop-group-preserved
loop-group-preserved c = λ is. some_then _ _ _ (c.loop-group.invariant is) (c.optional.ensures is)
