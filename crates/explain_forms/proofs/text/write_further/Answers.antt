use Rattle.std.proofs.Common.{[]}
use Rattle.explain_forms.proofs.OutputBuffers.{adds_none, adds_then}
use Rattle.explain_forms.proofs.text.write_further.Goals as goal

pub returns-in-Some : goal.returns-in-Some
returns-in-Some g c = let said = c.write_below.ensures in (_, adds_then _ _ _ _ _ c.append_chunk.ensures said.2)

pub returns-in-None : goal.returns-in-None
returns-in-None g c = ([], adds_none _)
