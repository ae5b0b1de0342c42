use Rattle.std.proofs.Common.{[]}
use Rattle.explain_forms.proofs.OutputBuffers.{adds_none}
use Rattle.explain_forms.proofs.output_buffer.Page.made.Goals as goal

pub returns-in-Ok : goal.returns-in-Ok
returns-in-Ok c = ([], adds_none _)

pub returns-in-Err : goal.returns-in-Err
returns-in-Err c = ([], c.refuse.ensures [])
