use Rattle.explain_forms.proofs.OutputBuffers.{adds_then}
use Rattle.explain_forms.proofs.text.write_rest.Goals as goal

pub returns : goal.returns
returns c = (_, adds_then _ _ _ _ _ c.append_chunk.ensures c.append_chunk-2.ensures)
