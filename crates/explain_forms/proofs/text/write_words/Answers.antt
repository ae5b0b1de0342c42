use Rattle.explain_forms.proofs.OutputBuffers.{adds_then}
use Rattle.explain_forms.proofs.text.write_words.Goals as goal

pub returns : goal.returns
returns g c = let said = c.append_words.ensures in (said.0, said.1, adds_then _ _ _ _ _ said.2 c.append_chunk.ensures)
