use Rattle.std.proofs.Common.{◌∙◌, [], refl, ap}
use Rattle.explain_forms.proofs.OutputBuffers.{adds_none, some_then}
use Rattle.cli_explain.proofs.line_filter.Window.emit_held.Goals as goal

pub loop-held-init : goal.loop-held-init
loop-held-init c = (λ is. ([], adds_none c.args.page.now), refl, refl)

pub loop-held-preserved : goal.loop-held-preserved
loop-held-preserved c =
    let inv = c.loop-held.invariant in
    let one = c.emit_one.ensures in (
      λ is. some_then _ _ _ (inv.0 is) (one.shown_line (ap (λ e. e.form) inv.1 ∙ is)),
      one.excerpt ∙ inv.1,
      one.subsequent ∙ inv.2,
    )
