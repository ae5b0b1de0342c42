use Rattle.std.proofs.Common.{◌≡◌, ◌≤◌, ◌∙◌, List, [], length, refl, sym, ap, subst, arith, rules}
use Rattle.hsms_machine.specs.declared.entry.Entry.{Entry}
use Rattle.hsms_machine.specs.Repair.{change_by}
use Rattle.hsms_machine.specs.View.{waiting_of}
use Rattle.explain_session.specs.RepairSteps.{changed}
use Rattle.explain_session.specs.InnerRepairSteps.{entries_of, most_steps}
use Rattle.hsms_log.specs.Step.{entry_by}
use Rattle.explain_session.proofs.RepairRows.{Stepped, none_stepped, stepped_more, stepped_most, stepped_none, no_steps, steps_popped}
use Rattle.explain_session.proofs.repair_entry.repair_broken.Goals as goal

pub loop-init : goal.loop-init
loop-init c =
    let repaired_session = c.args.known.now.repaired_session in
    let notes = c.args.notes.now.items in
    let text = c.args.text.now in
    let entry = entry_by c.args.entry text in
    let next = changed (change_by c.args.repair_action entry) entry [] in
    let left : entries_of text c.go_on.new.pending.items ≡ next =
    c.in_ok-go_on.ensures text ∙ ap (λ s. changed (change_by c.args.repair_action entry) entry (entries_of text s)) c.new-pending.ensures.items in
    let P : List Entry → Type 0 = λ l. Stepped repaired_session next notes 0 repaired_session l notes in
    (λ why is. is, refl, subst P (sym left) (none_stepped repaired_session next notes), omega arith, search rules)

pub returns-in_default-clause-leads : goal.returns-in_default-clause-leads
returns-in_default-clause-leads c =
    let inv = c.loop.invariant in
    let few : c.loop.counter ≤ most_steps (waiting_of c.args.known.now.repaired_session.tracker) = omega (arith, inv.3, inv.4) in
    let size : length c.loop.pending.items ≡ 0 = search rules in
    stepped_none _ _ _ _ _ _ _ _ few (no_steps c.args.text.now c.loop.pending.items size) inv.2

pub loop-preserved : goal.loop-preserved
loop-preserved c =
    let inv = c.loop.invariant in
    let next = c.in_ok-check_next.ensures in (
      λ why is. next.noted why (inv.0 why is),
      next.settings ∙ inv.1,
      stepped_more _ _ _ _ _ _ _ _ _ _ _ _ inv.2 (steps_popped c.args.text.now _ _ c.in-Some.step c.pop.result c.in-Some.is c.pop.ensures.items) next.steps next.line,
      omega (arith, c.loop-test.true),
      inv.4,
    )

pub returns-clause-leads : goal.returns-clause-leads
returns-clause-leads c =
    let inv = c.loop.invariant in
    let last : c.loop.counter ≡ most_steps (waiting_of c.args.known.now.repaired_session.tracker) = omega (arith, inv.3, inv.4, c.loop-test.false) in
    stepped_most _ _ _ _ _ _ _ _ last inv.2
