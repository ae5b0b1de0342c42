use Rattle.std.proofs.Common.{◌++◌, ◌∙◌, codes, ap}
use Rattle.explain_forms.proofs.OutputBuffers.{adds_is, adds_then}
use Rattle.explain_forms.proofs.text.write_rule.Goals as goal

pub returns : goal.returns
returns c =
    adds_is _ _ _ _ (ap (λ n. codes "       FAIL " ++ n ++ codes ": " ++ c.as_bytes-2.result.now ++ codes "\n") c.as_bytes.ensures.value
    ∙ ap (λ s. codes "       FAIL " ++ c.args.name.now ++ codes ": " ++ s ++ codes "\n") c.as_bytes-2.ensures.value)
    (adds_then _ _ _ _ _
    (adds_then _ _ _ _ _ (adds_then _ _ _ _ _ (adds_then _ _ _ _ _ c.append_chunk.ensures c.append_chunk-2.ensures) c.append_chunk-3.ensures) c.append_chunk-4.ensures)
    c.append_chunk-5.ensures)
