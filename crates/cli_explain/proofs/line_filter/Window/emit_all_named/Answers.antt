use Rattle.std.proofs.Common.{◌∙◌, [], refl, ap}
use Rattle.explain_forms.proofs.OutputBuffers.{adds_none, some_then}
use Rattle.cli_explain.proofs.line_filter.Window.emit_all_named.Goals as goal

pub loop-init : goal.loop-init
loop-init c = (λ is. ([], adds_none c.args.page.now), refl, refl, refl)

pub loop-preserved : goal.loop-preserved
loop-preserved c =
    let inv = c.loop.invariant in
    let one = c.emit_if_named.ensures in (
      λ is. some_then _ _ _ (inv.0 is) (one.shown_line (ap (λ e. e.form) inv.1 ∙ is)),
      one.excerpt ∙ inv.1,
      one.subsequent ∙ inv.2,
      one.held ∙ inv.3,
    )
