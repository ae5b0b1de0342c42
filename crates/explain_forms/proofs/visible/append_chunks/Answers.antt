use Rattle.explain_forms.proofs.Escapes.{visible_none, visible_then}
use Rattle.explain_forms.proofs.visible.append_chunks.Goals as goal

pub loop-chunk-init : goal.loop-chunk-init
loop-chunk-init c = visible_none _

pub loop-chunk-preserved : goal.loop-chunk-preserved
loop-chunk-preserved c = visible_then _ _ _ c.loop-chunk.invariant (visible_then _ _ _ c.append_text.ensures c.write_other.ensures)
