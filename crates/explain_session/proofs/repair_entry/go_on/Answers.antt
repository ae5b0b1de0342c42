use Rattle.std.proofs.Common.{ap}
use Rattle.hsms_machine.specs.declared.entry.Event.TheVariants.{T3, Cut, Down}
use Rattle.hsms_machine.specs.Repair.{change_by, entry_of_event}
use Rattle.explain_lines.proofs.Results.{on_ok_more}
use Rattle.explain_session.proofs.RepairRows.{discard_on, first_on, raise_on, without_on}
use Rattle.explain_session.proofs.repair_entry.go_on.Goals as goal

pub returns-in-Raise : goal.returns-in-Raise
returns-in-Raise c = on_ok_more _ _ c.put.result (raise_on c.args.repair_action c.args.step c.in-Raise.time c.args.pending.now.items c.put.new.pending.items c.in-Raise.is) c.put.ensures

pub returns-in-Discard : goal.returns-in-Discard
returns-in-Discard c =
    on_ok_more _ _ c.put-in-Discard.result
    (discard_on c.args.repair_action c.args.step c.thrown_away.result c.args.pending.now.items c.put-in-Discard.new.pending.items c.in-Discard.is c.thrown_away.ensures)
    c.put-in-Discard.ensures

pub returns-in-ExpireFirst : goal.returns-in-ExpireFirst
returns-in-ExpireFirst c =
    on_ok_more _ _ c.put_first.result
    (first_on c.args.repair_action c.args.step (entry_of_event c.in-ExpireFirst.time (T3 c.in-ExpireFirst.system)) c.args.pending.now.items c.put_first.new.pending.items
    (λ entry. ap (λ r. change_by r entry) c.in-ExpireFirst.is))
    c.put_first.ensures

pub returns-in-CutFirst : goal.returns-in-CutFirst
returns-in-CutFirst c =
    on_ok_more _ _ c.put_first-in-CutFirst.result
    (first_on c.args.repair_action c.args.step (entry_of_event c.in-CutFirst.time (Cut c.in-CutFirst.cause)) c.args.pending.now.items c.put_first-in-CutFirst.new.pending.items
    (λ entry. ap (λ r. change_by r entry) c.in-CutFirst.is))
    c.put_first-in-CutFirst.ensures

pub returns-in-DownFirst : goal.returns-in-DownFirst
returns-in-DownFirst c =
    on_ok_more _ _ c.put_first-in-DownFirst.result
    (first_on c.args.repair_action c.args.step (entry_of_event c.in-DownFirst.time Down) c.args.pending.now.items c.put_first-in-DownFirst.new.pending.items
    (λ entry. ap (λ r. change_by r entry) c.in-DownFirst.is))
    c.put_first-in-DownFirst.ensures

pub returns-in-LeaveOut : goal.returns-in-LeaveOut
returns-in-LeaveOut c = without_on c.args.repair_action c.args.step c.args.pending.now.items c.in-LeaveOut.is
