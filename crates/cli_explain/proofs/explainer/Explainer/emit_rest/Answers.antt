use Rattle.cli_explain.proofs.Firsts.{keeps_then}
use Rattle.cli_explain.proofs.explainer.Explainer.emit_rest.Goals as goal

pub returns-in-Unjudged-clause-shown : goal.returns-in-Unjudged-clause-shown
returns-in-Unjudged-clause-shown c = keeps_then _ _ _ c.emit_gap.ensures.shown c.emit_unjudged.ensures.shown

pub returns-in-Checked-clause-shown : goal.returns-in-Checked-clause-shown
returns-in-Checked-clause-shown c = keeps_then _ _ _ c.emit_gap.ensures.shown c.emit_end.ensures.shown
