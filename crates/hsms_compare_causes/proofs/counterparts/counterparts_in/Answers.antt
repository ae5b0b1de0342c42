use Rattle.std.proofs.Common.{◌+◌, ℕ, ap, arith, get_or, refl}
use Rattle.hsms_compare_causes.proofs.Listed.{counterparts_end, counterparts_step}
use Rattle.hsms_compare_causes.proofs.counterparts.counterparts_in.Goals as goal

pub loop-i-preserved : goal.loop-i-preserved
loop-i-preserved c = record {
  so = counterparts_step c.args.sent.now c.args.received.now c.args.is_open c.args.own.now c.loop-i.i c.loop-i.sent_count c.loop-i.received_count _ _ c.loop-i.found.items _ _ c.counterpart-next.result (get_or c.args.own.now c.loop-i.i c.index-own-i.result) c.index-own-i.result
      (omega arith) refl c.in_ok-push_counterpart.ensures c.counterpart-next.ensures (ap (λ (k : ℕ). c.loop-i.sent_count + k) c.count_of_sent-sent_count.ensures.count) (ap (λ (k : ℕ). c.loop-i.received_count + k) c.count_of_received-received_count.ensures.count)
      c.loop-i.invariant.so;
  few_sent = omega (arith, c.count_of_sent-sent_count.ensures.few, c.loop-i.invariant.few_sent);
  few_received = omega (arith, c.count_of_received-received_count.ensures.few, c.loop-i.invariant.few_received);
}

pub returns : goal.returns
returns c = counterparts_end c.args.sent.now c.args.received.now c.args.is_open c.args.own.now c.loop-i.i c.loop-i.sent_count c.loop-i.received_count c.loop-i.found.items _ (omega arith) c.loop-i.invariant.so
