use Rattle.std.proofs.Common.{[], List, subst}
use Rattle.hsms_log.specs.declared.step.Step.{Step}
use Rattle.explain_session.specs.RepairSteps.{Notes, recorded_with}
use Rattle.explain_session.specs.InnerRepairSteps.{entries_of}
use Rattle.explain_lines.proofs.Results.{on_ok, on_ok_more}
use Rattle.explain_session.proofs.RepairRows.{broken_steps, valid_steps}
use Rattle.explain_session.proofs.repair_entry.check_next.Goals as goal

pub returns-in-Lawful-clause-steps : goal.returns-in-Lawful-clause-steps
returns-in-Lawful-clause-steps c =
    let text = c.args.text.now in
    let one = c.in_ok-check_result.check_result in
    let P : List Step → Type 0 = λ s. Notes c.args.notes.now.items (recorded_with one (entries_of text s) []) c.note_last.new.notes.items in
    let says = subst P c.deref.ensures.value c.in_ok-note_last.ensures.says in
    on_ok _ c.take_in.result
    (valid_steps _ _ _ _ c.in-Lawful.closed one _ _ _ c.in-Lawful.is c.in_ok-check_result.ensures.check_result c.take_in.ensures.repaired_session says)

pub returns-in-Broken-clause-steps : goal.returns-in-Broken-clause-steps
returns-in-Broken-clause-steps c =
    let text = c.args.text.now in
    let one = c.in_ok-check_result.check_result in
    let P : List Step → Type 0 = λ s. Notes c.args.notes.now.items (recorded_with one (entries_of text s) []) c.note_last.new.notes.items in
    let says = subst P c.deref.ensures.value c.in_ok-note_last.ensures.says in
    on_ok_more _ _ c.go_on.result
    (λ next. broken_steps _ _ _ c.in-Broken.failure one _ _ _ _ c.in-Broken.is c.in_ok-check_result.ensures.check_result says (next text))
    c.go_on.ensures
