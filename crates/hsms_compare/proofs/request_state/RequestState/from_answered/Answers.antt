use Rattle.hsms_compare.proofs.RequestStates.{replied_now}
use Rattle.hsms_compare.proofs.request_state.RequestState.from_answered.Goals as goal

pub returns-then-is_received : goal.returns-then-is_received
returns-then-is_received c own other j limit number r s n t =
    replied_now own other j limit number c.args.received_at c.args.answered_at c.args.took c.args.reply c.args.time c.args.counts.entries c.args.counts.received c.saturating_sub.result c.args.entry.now r s
    n.entries_so n.received_so c.if-counts-reply.true (c.is_received.ensures.0 c.if-is_received.true) t c.saturating_sub.ensures
