use Rattle.explain_forms.proofs.OutputBuffers.{adds_appended}
use Rattle.explain_forms.proofs.output_buffer.Page.append_message_line.Goals as goal

pub returns : goal.returns
returns c = let said = c.give_line.ensures in (said.0, said.1, adds_appended _ _ said.0 said.2)
