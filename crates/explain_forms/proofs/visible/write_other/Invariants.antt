use Rattle.explain_forms.specs.InnerVisible.{AddsVisible}
use Rattle.explain_forms.proofs.visible.write_other.Given as goal

abbrev pub invariant-loop-octet : goal.invariant-loop-octet
invariant-loop-octet l = AddsVisible l.initial.page l.page
