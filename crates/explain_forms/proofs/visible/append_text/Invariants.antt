use Rattle.explain_forms.specs.InnerVisible.{AddsVisible}
use Rattle.explain_forms.proofs.visible.append_text.Given as goal

abbrev pub invariant-loop-at : goal.invariant-loop-at
invariant-loop-at l = AddsVisible l.initial.page l.page
