use Rattle.std.proofs.Common.{◌∙◌, [], ◌∷◌, Some, refl, sym, ap, subst}
use Rattle.std.specs.Prelude.{Option}
use Rattle.explain_session.specs.declared.repaired_session.Checked.TheVariants.{Lawful}
use Rattle.explain_session.specs.declared.repaired_session.Opening.{Opening}
use Rattle.explain_lines.specs.declared.annotation.Note.TheVariants.{Closes}
use Rattle.explain_lines.specs.AnnotatedFailure.{first_why}
use Rattle.explain_session.specs.RepairSteps.{Notes}
use Rattle.explain_lines.proofs.AnnotatedFailures.{either_none, first_why-push}
use Rattle.explain_session.proofs.RepairRows.{one_note}
use Rattle.explain_session.proofs.repair_entry.note_closing.Goals as goal

pub returns-in_ok-push-in-Some-clause-why : goal.returns-in_ok-push-in-Some-clause-why
returns-in_ok-push-in-Some-clause-why c =
    let before = c.args.notes.now.items in
    ap first_why c.in_ok-push-in-Some.ensures.items ∙ first_why-push before (Closes c.closing.result) ∙ either_none (first_why before)

pub returns-in_ok-push-in-Some-clause-says : goal.returns-in_ok-push-in-Some-clause-says
returns-in_ok-push-in-Some-clause-says c =
    let before = c.args.notes.now.items in
    let after = c.push.new.self.items in
    let O : Option Opening → Type 0 = λ o. Notes before (Lawful o ∷ []) after in
    subst O (sym c.in-Some.is)
    (one_note before after (Closes c.closing.result ∷ []) (Lawful (Some c.in-Some.opening)) (c.closing.result, refl, c.closing.ensures)
    c.in_ok-push-in-Some.ensures.items)
