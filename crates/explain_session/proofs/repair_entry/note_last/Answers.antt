use Rattle.std.proofs.Common.{◌≡◌, ◌<◌, List, length, sym, subst, rules}
use Rattle.explain_session.specs.declared.repaired_session.Checked.{Checked}
use Rattle.explain_session.specs.RepairSteps.{Notes}
use Rattle.explain_lines.proofs.Results.{on_ok_more}
use Rattle.explain_session.proofs.RepairRows.{no_notes, recorded_alone, recorded_before}
use Rattle.explain_session.proofs.repair_entry.note_last.Goals as goal

pub returns-then-is_empty-clause-says : goal.returns-then-is_empty-clause-says
returns-then-is_empty-clause-says c =
    let size : length c.args.pending.now ≡ 0 = search rules in
    let alone = recorded_alone c.args.text.now c.args.pending.now c.args.check_result size in
    let P : List Checked → Type 0 = λ t. Notes c.args.notes.now.items t c.note.new.notes.items in
    on_ok_more _ _ c.note.result (λ says. subst P (sym alone) says) c.note.ensures.says

pub returns-clause-says : goal.returns-clause-says
returns-clause-says c =
    let size : 0 < length c.args.pending.now = search rules in
    let none = recorded_before c.args.text.now c.args.pending.now c.args.check_result size in
    let P : List Checked → Type 0 = λ t. Notes c.args.notes.now.items t c.args.notes.now.items in
    subst P (sym none) (no_notes c.args.notes.now.items)
