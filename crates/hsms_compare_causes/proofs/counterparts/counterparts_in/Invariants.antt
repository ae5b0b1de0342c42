use Rattle.std.proofs.Common.{◌≡◌, ◌≤◌, ◌++◌, drop}
use Rattle.hsms_compare_causes.specs.Counterparts.{counterparts_from}
use Rattle.hsms_compare_causes.proofs.counterparts.counterparts_in.Given as goal

abbrev pub invariant-loop-i : goal.invariant-loop-i
invariant-loop-i l = record {
  so : l.found.items ++ counterparts_from l.sent l.received l.is_open l.sent_count l.received_count (drop l.i l.own)
      ≡ counterparts_from l.sent l.received l.is_open 0 0 l.own;
  few_sent : l.sent_count ≤ l.i;
  few_received : l.received_count ≤ l.i;
}
