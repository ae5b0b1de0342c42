use Rattle.explain_forms.proofs.Escapes.{visible_none, visible_then}
use Rattle.explain_forms.proofs.visible.append_text.Goals as goal

pub loop-at-init : goal.loop-at-init
loop-at-init c = visible_none _

pub loop-at-preserved : goal.loop-at-preserved
loop-at-preserved c = visible_then _ _ _ c.loop-at.invariant c.append_octet.ensures
