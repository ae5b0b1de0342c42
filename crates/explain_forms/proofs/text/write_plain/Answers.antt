use Rattle.std.proofs.Common.{refl}
use Rattle.explain_forms.proofs.Escapes.{visible_blanks, visible_then}
use Rattle.explain_forms.proofs.OutputBuffers.{adds_then}
use Rattle.explain_forms.proofs.text.write_plain.Goals as goal

pub returns : goal.returns
returns c =
    let said = visible_then _ _ _ (visible_blanks _ _ _ c.append_blanks.ensures) c.append_visible.ensures in
    (_, (said.0, said.1, refl), adds_then _ _ _ _ _ said.2 c.append_chunk.ensures)
