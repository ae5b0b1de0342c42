use Rattle.std.proofs.Common.{◌-◌, length}
use Rattle.hsms_compare_causes.specs.InnerGroups.{AreNextFrom, IsLater}
use Rattle.hsms_compare_causes.proofs.indexed_log.next_entries.Given as goal

abbrev pub invariant-loop-i : goal.invariant-loop-i
invariant-loop-i l = record {
  nexts_so : AreNextFrom l.log (length l.log - l.i) l.nexts.items;
  later_so : IsLater l.log (length l.log - l.i) l.later;
}
