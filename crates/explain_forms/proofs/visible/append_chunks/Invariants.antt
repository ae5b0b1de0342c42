use Rattle.explain_forms.specs.InnerVisible.{AddsVisible}
use Rattle.explain_forms.proofs.visible.append_chunks.Given as goal

abbrev pub invariant-loop-chunk : goal.invariant-loop-chunk
invariant-loop-chunk l = AddsVisible l.initial.page l.page
