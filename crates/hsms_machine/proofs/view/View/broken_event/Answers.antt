use Rattle.std.proofs.Common.{ap, sym, subst}
use Rattle.hsms_machine.specs.EventParts.{event_of, entry_of, frame_of}
use Rattle.hsms_machine.specs.ViewRules.{facts_of}
use Rattle.hsms_machine.proofs.Steps.{sent_first, taken_first, discard_first, EventFirst}
use Rattle.hsms_machine.proofs.view.View.broken_event.Goals as goal

pub returns-in-Sent : goal.returns-in-Sent
returns-in-Sent c =
    let text = c.args.text.now in
    sent_first (facts_of c.args.self.now) c.args.self.now.settings (entry_of 0 c.args.act.now text) (frame_of c.in-Sent.message text) _
    (ap (λ act. event_of act text) c.in-Sent.is) c.broken_frame.ensures

pub returns-in-Taken : goal.returns-in-Taken
returns-in-Taken c =
    let text = c.args.text.now in
    taken_first (facts_of c.args.self.now) c.args.self.now.settings (entry_of 0 c.args.act.now text) (frame_of c.in-Taken.message text) _
    (ap (λ act. event_of act text) c.in-Taken.is) c.broken_frame-in-Taken.ensures

pub returns-in-Discarded : goal.returns-in-Discarded
returns-in-Discarded c =
    let text = c.args.text.now in
    subst (EventFirst (facts_of c.args.self.now) c.args.self.now.settings 0 c.broken_discard.result) (sym (ap (λ act. event_of act text) c.in-Discarded.is))
    (discard_first (facts_of c.args.self.now) c.args.self.now.settings 0 (frame_of c.in-Discarded.message text) c.broken_discard.result c.broken_discard.ensures)
