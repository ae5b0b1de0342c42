use Rattle.std.proofs.Common.{◌≡◌, ◌∙◌, ◌+◌, ◌-◌, ◌++◌, min, length, take, refl, ap, rules}
use Rattle.cli_explain.specs.InnerLinesProcessed.{limit_at}
use Rattle.explain_lines.proofs.Results.{on_ok_grown, on_ok_more}
use Rattle.cli_explain.proofs.ProcessedLines.{processed_part}
use Rattle.cli_explain.proofs.explainer.Explainer.hold.Goals as goal

pub returns-clause-reception : goal.returns-clause-reception
returns-clause-reception c =
    let old = c.args.self.now in
    let part = c.args.part.now in
    let kept : c.min-kept.result ≡ min (length part) (limit_at old.stage + 2 - length old.held.items) = search rules in
    on_ok_more _ _ c.extend_from_slice.result
    (λ items text none. processed_part old _ text part none refl refl (items ∙ ap (λ k. old.held.items ++ take k part) kept))
    (on_ok_grown c.extend_from_slice.result _ _ _ c.extend_from_slice.ensures.items)
