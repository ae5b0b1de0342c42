use Rattle.explain_forms.proofs.OutputBuffers.{adds_then}
use Rattle.explain_forms.proofs.text.write_below.Goals as goal

pub returns : goal.returns
returns g c = let said = c.write_words.ensures in (said.0, said.1, adds_then _ _ _ _ _ c.append_chunk.ensures said.2)
