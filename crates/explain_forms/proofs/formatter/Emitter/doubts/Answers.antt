use Rattle.std.proofs.Common.{[]}
use Rattle.explain_forms.proofs.OutputBuffers.{adds_none, some_then}
use Rattle.explain_forms.proofs.formatter.Emitter.doubts.Goals as goal

pub loop-doubt-init : goal.loop-doubt-init
loop-doubt-init c = λ is. ([], adds_none _)

pub loop-doubt-preserved : goal.loop-doubt-preserved
loop-doubt-preserved c = λ is. some_then _ _ _ (c.loop-doubt.invariant is) (c.doubt.ensures is)
