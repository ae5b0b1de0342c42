use Rattle.explain_forms.proofs.Escapes.{visible_none, visible_then}
use Rattle.explain_forms.proofs.visible.write_other.Goals as goal

pub loop-octet-init : goal.loop-octet-init
loop-octet-init c = visible_none _

pub loop-octet-preserved : goal.loop-octet-preserved
loop-octet-preserved c = visible_then _ _ _ c.loop-octet.invariant c.append_octet.ensures
