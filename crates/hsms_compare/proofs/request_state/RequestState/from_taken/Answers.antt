use Rattle.std.proofs.Common.{refl, sym, ◌∙◌}
use Rattle.hsms_compare.proofs.RequestStates.{answered_now, reply_now}
use Rattle.hsms_compare.proofs.request_state.RequestState.from_taken.Goals as goal

pub returns-then-took-limit : goal.returns-then-took-limit
returns-then-took-limit c own other j number r s n few = (
  refl,
  (
    answered_now own other j c.args.received_at c.args.time c.args.counts.entries c.saturating_sub-took.result c.args.entry.now c.args.request s.0 s.1 s.2 s.3
        (sym c.closes.ensures ∙ c.if-not-closes.false) n.entries_so c.saturating_sub-took.ensures,
    c.if-took-limit.true,
  ),
)

pub returns-else-took-limit : goal.returns-else-took-limit
returns-else-took-limit c own other j number r s n few = (
  answered_now own other j c.args.received_at c.args.time c.args.counts.entries c.saturating_sub-took.result c.args.entry.now c.args.request s.0 s.1 s.2 s.3
      (sym c.closes.ensures ∙ c.if-not-closes.false) n.entries_so c.saturating_sub-took.ensures,
  c.if-took-limit.false,
  reply_now other c.args.received_at c.args.counts.entries c.args.counts.sent c.args.entry.now c.args.request s.1 (sym c.closes.ensures ∙ c.if-not-closes.false) n.entries_so n.sent_so,
  few,
)
