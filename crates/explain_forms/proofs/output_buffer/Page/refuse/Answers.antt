use Rattle.std.proofs.Common.{refl}
use Rattle.explain_forms.proofs.OutputBuffers.{adds_refused}
use Rattle.explain_forms.proofs.output_buffer.Page.refuse.Goals as goal

pub returns : goal.returns
returns c = λ words. adds_refused _ _ words refl c.give_all.ensures.none_left
