use Rattle.hsms_machine.specs.declared.entry.Act.TheVariants.{Sent as ActSent, Taken as ActTaken}
use Rattle.hsms_machine.proofs.Placed.{parted}
use Rattle.hsms_machine.proofs.SharedSystemBytes.{sent_in_use, sent_not_in_use, taken_in_use, taken_not_in_use}
use Rattle.hsms_machine.proofs.opening_lines.Places.in_use.Goals as goal

pub returns-in-Sent-clause-place : goal.returns-in-Sent-clause-place
returns-in-Sent-clause-place c =
    sent_in_use c.self.inside.view c.args.self.now c.self.view_is c.args.entry.now.event c.in-Sent.message c.parts.result.2.now
    (parted c.args.entry.now c.parts.result.0 c.parts.result.1.now (ActSent c.in-Sent.message) c.parts.result.2.now c.parts.ensures c.in-Sent.is)
    c.using.result c.using.ensures.place

pub returns-in-Sent-clause-none : goal.returns-in-Sent-clause-none
returns-in-Sent-clause-none c =
    sent_not_in_use c.self.inside.view c.args.self.now c.self.view_is c.args.entry.now.event c.in-Sent.message c.parts.result.2.now
    (parted c.args.entry.now c.parts.result.0 c.parts.result.1.now (ActSent c.in-Sent.message) c.parts.result.2.now c.parts.ensures c.in-Sent.is)
    c.using.result c.using.ensures.none

pub returns-in-Taken-clause-place : goal.returns-in-Taken-clause-place
returns-in-Taken-clause-place c =
    taken_in_use c.self.inside.view c.args.self.now c.self.view_is c.args.entry.now.event c.in-Taken.message c.parts.result.2.now
    (parted c.args.entry.now c.parts.result.0 c.parts.result.1.now (ActTaken c.in-Taken.message) c.parts.result.2.now c.parts.ensures c.in-Taken.is)
    c.using-in-Taken.result c.using-in-Taken.ensures.place

pub returns-in-Taken-clause-none : goal.returns-in-Taken-clause-none
returns-in-Taken-clause-none c =
    taken_not_in_use c.self.inside.view c.args.self.now c.self.view_is c.args.entry.now.event c.in-Taken.message c.parts.result.2.now
    (parted c.args.entry.now c.parts.result.0 c.parts.result.1.now (ActTaken c.in-Taken.message) c.parts.result.2.now c.parts.ensures c.in-Taken.is)
    c.using-in-Taken.result c.using-in-Taken.ensures.none
