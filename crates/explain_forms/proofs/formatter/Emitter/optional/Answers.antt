use Rattle.std.proofs.Common.{[]}
use Rattle.explain_forms.proofs.OutputBuffers.{adds_none}
use Rattle.explain_forms.proofs.formatter.Emitter.optional.Goals as goal

pub returns-in-None : goal.returns-in-None
returns-in-None g c = λ is. ([], adds_none _)
