use Rattle.std.proofs.Common.{[], sym}
use Rattle.explain_forms.proofs.output_buffer.Page.clear.Goals as goal

pub returns : goal.returns
returns c = λ none. ([], λ kept. c.clear.ensures.items, sym none)
