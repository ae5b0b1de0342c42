use Rattle.std.proofs.Common.{◌≡◌, ◌∙◌, [], ◌∷◌, Some, refl, sym, ap, subst}
use Rattle.hsms_log.specs.declared.verdict.Why.{Why}
use Rattle.explain_session.specs.declared.repaired_session.Checked.{Checked}
use Rattle.explain_session.specs.declared.repaired_session.Checked.TheVariants.{Broken}
use Rattle.explain_lines.specs.declared.annotation.Note.TheVariants.{Fails}
use Rattle.explain_lines.specs.AnnotatedFailure.{either, first_why}
use Rattle.explain_session.specs.InnerEntryFailure.{why_of}
use Rattle.explain_session.specs.RepairSteps.{Notes}
use Rattle.explain_lines.proofs.AnnotatedFailures.{either_none, first_why-push}
use Rattle.explain_lines.proofs.Results.{on_ok_more}
use Rattle.explain_session.proofs.RepairRows.{one_note}
use Rattle.explain_session.proofs.repair_entry.note.Goals as goal

pub returns-in-Lawful-clause-why : goal.returns-in-Lawful-clause-why
returns-in-Lawful-clause-why c =
    let before = first_why c.args.notes.now.items in
    let P : Checked → Type 0 = λ j. first_why c.note_closing.new.notes.items ≡ either before (why_of j) in
    on_ok_more _ _ c.note_closing.result (λ same. subst P (sym c.in-Lawful.is) (same ∙ sym (either_none before))) c.note_closing.ensures.why

pub returns-in-Lawful-clause-says : goal.returns-in-Lawful-clause-says
returns-in-Lawful-clause-says c =
    let P : Checked → Type 0 = λ j. Notes c.args.notes.now.items (j ∷ []) c.note_closing.new.notes.items in
    on_ok_more _ _ c.note_closing.result (λ says. subst P (sym c.in-Lawful.is) says) c.note_closing.ensures.says

pub returns-in_ok-push-in-Broken-clause-why : goal.returns-in_ok-push-in-Broken-clause-why
returns-in_ok-push-in-Broken-clause-why c =
    let before = first_why c.args.notes.now.items in
    let P : Checked → Type 0 = λ j. first_why c.push.new.self.items ≡ either before (why_of j) in
    subst P (sym c.in-Broken.is)
    (ap first_why c.in_ok-push-in-Broken.ensures.items ∙ first_why-push c.args.notes.now.items (Fails c.failing.result)
    ∙ ap (λ (w : Why). either before (Some w)) c.failing.ensures.why)

pub returns-in_ok-push-in-Broken-clause-says : goal.returns-in_ok-push-in-Broken-clause-says
returns-in_ok-push-in-Broken-clause-says c =
    let P : Checked → Type 0 = λ j. Notes c.args.notes.now.items (j ∷ []) c.push.new.self.items in
    let says = c.failing.ensures in
    subst P (sym c.in-Broken.is)
    (one_note c.args.notes.now.items c.push.new.self.items (Fails c.failing.result ∷ []) (Broken c.in-Broken.failure)
    (c.failing.result, refl, says.why, says.concerns, says.repair_action, says.sentence) c.in_ok-push-in-Broken.ensures.items)
