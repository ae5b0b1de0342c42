use Rattle.std.proofs.Common.{[], sym}
use Rattle.explain_forms.proofs.output_buffer.Page.new.Goals as goal

pub returns : goal.returns
returns c = ([], c.new-2.ensures, sym c.in_ok-block.ensures)
