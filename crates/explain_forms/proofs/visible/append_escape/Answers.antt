use Rattle.std.proofs.Common.{[], ◌∷◌, refl}
use Rattle.explain_forms.proofs.Escapes.{visible_octet, visible_then}
use Rattle.explain_forms.proofs.visible.append_escape.Goals as goal

pub returns : goal.returns
returns c =
    visible_then _ _ _ (visible_then _ _ _ (92 ∷ 120 ∷ [], refl, c.append_chunk.ensures) (visible_octet _ _ _ c.digit.ensures c.append_chunk-2.ensures))
    (visible_octet _ _ _ c.digit-2.ensures c.append_chunk-3.ensures)
