use Rattle.explain_forms.proofs.Escapes.{visible_octet}
use Rattle.explain_forms.proofs.visible.append_octet.Goals as goal

pub returns-then-is_shown : goal.returns-then-is_shown
returns-then-is_shown c = visible_octet _ _ _ (c.is_shown.ensures c.if-is_shown.true) c.append_chunk.ensures
