use Rattle.std.proofs.Common.{◌∙◌}
use Rattle.explain_forms.proofs.OutputBuffers.{input_octets}
use Rattle.explain_forms.proofs.output_buffer.Page.octets.Goals as goal

pub returns : goal.returns
returns c = λ text none shown_line.
    input_octets c.args.self.now text _ none shown_line (λ given has. c.deref.ensures.value ∙ has c.if-self.false)
