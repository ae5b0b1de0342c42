use Rattle.std.proofs.Common.{◌≡◌, is_none, false, true, rules, ap, sym, ◌∙◌, refl, inr}
use Rattle.hsms_machine.specs.declared.phase.Phase.TheVariants.{Over}
use Rattle.hsms_machine.specs.EventParts.{frame_of}
use Rattle.hsms_machine.specs.ViewRules.{facts_of}
use Rattle.hsms_machine.proofs.Steps.{no_cause_iff}
use Rattle.hsms_machine.proofs.view.View.broken_discard.Goals as goal
use Rattle.hsms_machine.proofs.view.View.broken_discard.Goals.{else-ne-via-then-ne+else-is_none, else-ne-via-else-ne}

pub returns-else-ne : goal.returns-else-ne
returns-else-ne c =
    let iff = no_cause_iff (facts_of c.args.self.now) c.args.self.now.settings (frame_of c.args.message c.args.text.now) c.broken_frame-cause.result c.broken_frame-cause.ensures in
    inr (
      (λ h. elim c.else-ne.branch [
        | else-ne-via-then-ne+else-is_none w ↦
            let some : is_none c.broken_frame-cause.result ≡ false = search rules in
            let e : false ≡ true = sym some ∙ ap is_none (iff.1 h.1) in
            cc
        | else-ne-via-else-ne w ↦ let over : c.args.self.now.phase ≡ Over = search rules in h.0 over
      ]),
      refl,
    )
