use Rattle.std.proofs.Common.{◌≡◌, ◌≤◌, Some, []}
use Rattle.hsms_log.specs.declared.verdict.Why.{Why}
use Rattle.hsms_machine.specs.Repair.{change_by}
use Rattle.hsms_machine.specs.View.{waiting_of}
use Rattle.explain_lines.specs.AnnotatedFailure.{first_why}
use Rattle.explain_session.specs.RepairSteps.{changed}
use Rattle.explain_session.specs.InnerRepairSteps.{entries_of, most_steps}
use Rattle.hsms_log.specs.Step.{entry_by}
use Rattle.explain_session.proofs.RepairRows.{Stepped}
use Rattle.explain_session.proofs.repair_entry.repair_broken.Given as goal

-- The first failure stays the first, and this number of checks was made.
abbrev pub invariant-loop : goal.invariant-loop
invariant-loop l =
    let entry = entry_by l.fn.entry l.text in
    ((why : Why) → first_why l.initial.notes.items ≡ Some why → first_why l.notes.items ≡ Some why)
    × (l.known.settings ≡ l.initial.known.settings)
    × Stepped l.initial.known.repaired_session (changed (change_by l.fn.repair_action entry) entry []) l.initial.notes.items l.counter l.known.repaired_session
    (entries_of l.text l.pending.items) l.notes.items
    × (l.counter ≤ l.steps)
    × (l.steps ≡ most_steps (waiting_of l.initial.known.repaired_session.tracker))
