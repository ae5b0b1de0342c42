use Rattle.std.proofs.Common.{refl, arith}
use Rattle.hsms_compare.proofs.Contradictions.{sends_there}
use Rattle.hsms_compare.proofs.comparison.sends_any.Goals as goal

pub returns-then-is_sent : goal.returns-then-is_sent
returns-then-is_sent c = (
  (λ t. sends_there c.args.log.now c.loop-entry.entry-index c.entry-item.result (omega arith) c.entry-item.is (c.is_sent.ensures.0 c.if-is_sent.true)),
  (λ t. refl),
)
