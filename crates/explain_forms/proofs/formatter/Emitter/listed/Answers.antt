use Rattle.std.proofs.Common.{[]}
use Rattle.explain_forms.proofs.OutputBuffers.{adds_none, some_then}
use Rattle.explain_forms.proofs.formatter.Emitter.listed.Goals as goal

pub loop-listed-init : goal.loop-listed-init
loop-listed-init c = λ is. ([], adds_none _)

pub loop-listed-preserved : goal.loop-listed-preserved
loop-listed-preserved c = λ is. some_then _ _ _ (c.loop-listed.invariant is) (c.list_item.ensures is)
