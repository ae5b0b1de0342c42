use Rattle.std.proofs.Common.{sym, ◌∙◌}
use Rattle.hsms_ends.proofs.TurnLists.{due_at}
use Rattle.hsms_ends.proofs.turns.step_is_due.Goals as goal

pub returns-then-place-script-clause-due : goal.returns-then-place-script-clause-due
returns-then-place-script-clause-due g c = c.is_idle.ensures ∙ sym (due_at c.args.end.now c.args.script.now c.args.place c.if-place-script.true)
