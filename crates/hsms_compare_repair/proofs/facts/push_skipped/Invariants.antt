use Rattle.std.proofs.Common.{◌≡◌, ◌++◌, ◌-◌, ◌<◌}
use Rattle.hsms_compare_repair.specs.Facts.{skipped_facts}
use Rattle.hsms_compare_repair.proofs.facts.push_skipped.Given as goal

abbrev pub invariant-loop-k : goal.invariant-loop-k
invariant-loop-k l = record {
  told : l.facts.items ≡ l.fn.facts.items ++ skipped_facts l.sent l.skipped l.receiver l.next (l.k - l.next);
  within : l.number < l.next → l.k ≡ l.next;
}
