use Rattle.explain_forms.proofs.OutputBuffers.{adds_is, said_refused}
use Rattle.explain_forms.proofs.output_buffer.Page.append_words.Goals as goal

pub returns-in-Ok : goal.returns-in-Ok
returns-in-Ok g c = (c.in-Ok.words.bytes.items, c.in-Ok.ensures.ok, adds_is _ _ _ _ c.as_bytes.ensures.value c.append_chunk.ensures)

pub returns-in-Err : goal.returns-in-Err
returns-in-Err g c = said_refused _ _ _ c.refuse.ensures
