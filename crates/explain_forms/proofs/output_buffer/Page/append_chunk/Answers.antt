use Rattle.explain_forms.proofs.OutputBuffers.{adds_appended}
use Rattle.explain_forms.proofs.output_buffer.Page.append_chunk.Goals as goal

pub returns : goal.returns
returns c = adds_appended _ _ c.args.octets.now c.append_chunk.ensures
