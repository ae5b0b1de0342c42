use Rattle.std.proofs.Common.{refl, sym, subst}
use Rattle.hsms_log.specs.declared.verdict.Verdict.{Verdict}
use Rattle.hsms_log.specs.Verdict.{LinesAudited}
use Rattle.cli_explain.specs.declared.audit_state.Stage.{Stage}
use Rattle.cli_explain.specs.InnerFirstFailureOutput.{IsOfFirst}
use Rattle.cli_explain.specs.InnerLinesProcessed.{ProcessedAfter}
use Rattle.cli_explain.proofs.Firsts.{checked_first, unjudged_first}
use Rattle.cli_explain.proofs.Verdicts.{checked_verdict, unjudged_verdict}
use Rattle.cli_explain.proofs.explainer.Explainer.verdict.Goals as goal

pub returns-in-Checked-clause-gives_verdict : goal.returns-in-Checked-clause-gives_verdict
returns-in-Checked-clause-gives_verdict c = λ lines small after.
    let tally = c.args.self.now.report.tally in
    let A : Stage → Type 0 = λ s. ProcessedAfter s tally lines in
    let L : Verdict → Type 0 = λ v. LinesAudited lines v in
    subst L (sym c.verdict.ensures)
    (checked_verdict c.in-Checked.known tally.entries lines c.waiting.result tally.first c.waiting.ensures small (subst A c.in-Checked.is after).0)

pub returns-in-Unjudged-clause-gives_verdict : goal.returns-in-Unjudged-clause-gives_verdict
returns-in-Unjudged-clause-gives_verdict c = λ lines small after.
    let tally = c.args.self.now.report.tally in
    let A : Stage → Type 0 = λ s. ProcessedAfter s tally lines in
    let L : Verdict → Type 0 = λ v. LinesAudited lines v in
    subst L (sym c.unjudged_verdict.ensures)
    (unjudged_verdict c.in-Unjudged.field-0 tally.entries lines tally.first small (subst A c.in-Unjudged.is after).0)

pub returns-in-Checked-clause-first : goal.returns-in-Checked-clause-first
returns-in-Checked-clause-first c = λ lines after some.
    let tally = c.args.self.now.report.tally in
    let L : Verdict → Type 0 = λ v. IsOfFirst v tally.first in
    subst L (sym c.verdict.ensures) (checked_first tally.first tally.entries c.waiting.result)

pub returns-in-Unjudged-clause-first : goal.returns-in-Unjudged-clause-first
returns-in-Unjudged-clause-first c = λ lines after some.
    let tally = c.args.self.now.report.tally in
    let A : Stage → Type 0 = λ s. ProcessedAfter s tally lines in
    let L : Verdict → Type 0 = λ v. IsOfFirst v tally.first in
    subst L (sym c.unjudged_verdict.ensures) (unjudged_first c.in-Unjudged.field-0 tally lines tally.first refl (subst A c.in-Unjudged.is after) some)
