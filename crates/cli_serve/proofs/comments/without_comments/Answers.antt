use Rattle.std.proofs.Common.{◌≡◌, ◌<◌, ◌≤◌, ◌∙◌, ap, arith, length, sym}
use Rattle.std.proofs.lemmas.List.{length-set, with_items_is}
use Rattle.cli_serve.specs.declared.comments.Part.TheVariants.{Plain}
use Rattle.cli_serve.specs.Comments.{without_comments}
use Rattle.cli_serve.proofs.BlankedBytes.{blanked_length, blanks_all, blanks_next}
use Rattle.cli_serve.proofs.comments.without_comments.Goals as goal

pub loop-octet-preserved : goal.loop-octet-preserved
loop-octet-preserved c =
    let k = c.loop-octet in
    let below : k.octet-index < length k.octet-items = omega (arith, k.invariant.0, c.loop-octet-test.true) in
    let next = blanks_next _ _ k.part c.after-part.result _ c.read_as.result below c.after-part.ensures c.read_as.ensures k.invariant.1 in
    (length-set _ _ _ ∙ k.invariant.0, next)

pub returns : goal.returns
returns c =
    let k = c.loop-octet in
    let above : length k.octet-items ≤ k.octet-index = omega (arith, k.invariant.0, c.loop-octet-test.false) in
    let same : k.octet-items ≡ without_comments c.args.script.items = blanks_all _ _ k.part k.octet-index above k.invariant.1 in
    let long : length k.octet-items ≡ c.args.script.len = ap length same ∙ blanked_length Plain c.args.script.items ∙ sym c.args.script.ok.0 in
    with_items_is c.args.script k.octet-items long ∙ same
