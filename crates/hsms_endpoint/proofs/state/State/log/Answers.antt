use Rattle.hsms_endpoint.proofs.Acts.{logged, logged_after}
use Rattle.hsms_endpoint.proofs.state.State.log.Goals as goal

pub returns : goal.returns
returns c = record {
  does = logged c.args.self.now c.args.event c.step.new.self c.args.entries.now.items c.push.new.self.items c.in_ok-step.field-0 c.requires
      c.in_ok-step.ensures.named_rule c.in_ok-step.ensures.next c.in_ok-step.ensures.is_valid c.in_ok-push.ensures.items;
  after = logged_after c.args.self.now c.args.event c.step.new.self c.in_ok-step.field-0 c.requires c.in_ok-step.ensures.named_rule c.in_ok-step.ensures.next;
}
