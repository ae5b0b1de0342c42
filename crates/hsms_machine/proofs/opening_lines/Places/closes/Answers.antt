use Rattle.std.proofs.Common.{sym}
use Rattle.hsms_machine.specs.declared.entry.Act.TheVariants.{Sent as ActSent, Taken as ActTaken, T3 as ActT3}
use Rattle.hsms_machine.proofs.Placed.{parted, sent_found, sent_none, taken_found, taken_none, t3_found, t3_none}
use Rattle.hsms_machine.proofs.opening_lines.Places.closes.Goals as goal

pub returns-in-Sent-clause-place : goal.returns-in-Sent-clause-place
returns-in-Sent-clause-place c =
    sent_found c.self.inside.view c.args.self.now c.self.view_is c.args.entry.now.event c.in-Sent.message c.parts.result.2.now
    (parted c.args.entry.now c.parts.result.0 c.parts.result.1.now (ActSent c.in-Sent.message) c.parts.result.2.now c.parts.ensures c.in-Sent.is)
    c.concluded.result c.concluded.ensures.place

pub returns-in-Sent-clause-none : goal.returns-in-Sent-clause-none
returns-in-Sent-clause-none c =
    sent_none c.self.inside.view c.args.self.now c.self.view_is c.args.entry.now.event c.in-Sent.message c.parts.result.2.now
    (parted c.args.entry.now c.parts.result.0 c.parts.result.1.now (ActSent c.in-Sent.message) c.parts.result.2.now c.parts.ensures c.in-Sent.is)
    c.concluded.result c.concluded.ensures.none

pub returns-in-Taken-clause-place : goal.returns-in-Taken-clause-place
returns-in-Taken-clause-place c =
    taken_found c.self.inside.view c.args.self.now c.self.view_is c.args.entry.now.event c.in-Taken.message c.parts.result.2.now
    (parted c.args.entry.now c.parts.result.0 c.parts.result.1.now (ActTaken c.in-Taken.message) c.parts.result.2.now c.parts.ensures c.in-Taken.is)
    c.concluded-in-Taken.result c.concluded-in-Taken.ensures.place

pub returns-in-Taken-clause-none : goal.returns-in-Taken-clause-none
returns-in-Taken-clause-none c =
    taken_none c.self.inside.view c.args.self.now c.self.view_is c.args.entry.now.event c.in-Taken.message c.parts.result.2.now
    (parted c.args.entry.now c.parts.result.0 c.parts.result.1.now (ActTaken c.in-Taken.message) c.parts.result.2.now c.parts.ensures c.in-Taken.is)
    c.concluded-in-Taken.result c.concluded-in-Taken.ensures.none

pub returns-in_ok-get-in-T3-clause-place : goal.returns-in_ok-get-in-T3-clause-place
returns-in_ok-get-in-T3-clause-place c =
    t3_found c.self.inside.view c.args.self.now c.self.view_is c.args.entry.now.event c.in-T3.system
    (parted c.args.entry.now c.parts.result.0 c.parts.result.1.now (ActT3 c.in-T3.system) c.parts.result.2.now c.parts.ensures c.in-T3.is)
    c.in_ok-get-in-T3.field-0 (sym c.in_ok-get-in-T3.ensures.found)

pub returns-in_err-get-in-T3-clause-none : goal.returns-in_err-get-in-T3-clause-none
returns-in_err-get-in-T3-clause-none c =
    rw c.from_residual.ensures
    (t3_none c.self.inside.view c.args.self.now c.self.view_is c.args.entry.now.event c.in-T3.system
    (parted c.args.entry.now c.parts.result.0 c.parts.result.1.now (ActT3 c.in-T3.system) c.parts.result.2.now c.parts.ensures c.in-T3.is)
    (sym c.in_err-get-in-T3.ensures.found))
