use Rattle.std.proofs.Common.{subst}
use Rattle.hsms_machine.specs.ViewRules.{IsInOrder}
use Rattle.hsms_machine.proofs.Mapped.{ordered}
use Rattle.hsms_machine.proofs.tracker.Tracker.keeps_order.Goals as goal

pub returns : goal.returns
returns c =
    let view = c.self.inside.view in
    let until = c.self.invariant.1 in
    let in_order : IsInOrder view = record {
      sent_data = ordered view.last_time view.sent_data until.sent_data c.keeps_order.ensures.in_order c.keeps_order.ensures.apart;
      sent_control = ordered view.last_time view.sent_control until.sent_control c.keeps_order-2.ensures.in_order c.keeps_order-2.ensures.apart;
      taken_data = ordered view.last_time view.taken_data until.taken_data c.keeps_order-3.ensures.in_order c.keeps_order-3.ensures.apart;
      taken_control = ordered view.last_time view.taken_control until.taken_control c.keeps_order-4.ensures.in_order c.keeps_order-4.ensures.apart;
    } in
    subst IsInOrder c.self.view_is in_order
