use Rattle.std.proofs.Common.{◌++◌, ap}
use Rattle.explain_forms.specs.TextOutput.{rule_words}
use Rattle.explain_forms.proofs.OutputBuffers.{adds_is, adds_then, some_then}
use Rattle.explain_forms.proofs.text.write_failing.Goals as goal

pub returns : goal.returns
returns c =
    let all = some_then _ _ _ (some_then _ _ _ c.write_culprit.ensures c.write_further.ensures) c.write_further-2.ensures in
    (all.0, adds_is _ _ _ _ (ap (λ n. rule_words n c.args.failing.now.sentence.now ++ all.0) c.name_of.ensures) (adds_then _ _ _ _ _ c.write_rule.ensures all.1))
