use Rattle.explain_forms.proofs.OutputBuffers.{adds_then, some_then}
use Rattle.explain_forms.proofs.text.write_time.Goals as goal

pub returns : goal.returns
returns c = some_then _ _ _ c.words-words.ensures (_, adds_then _ _ _ _ _ c.append_blanks.ensures c.append_chunk.ensures)
