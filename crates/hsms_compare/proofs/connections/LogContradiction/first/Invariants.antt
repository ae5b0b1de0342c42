use Rattle.std.proofs.Common.{◌+◌, length}
use Rattle.hsms_compare.proofs.Connected.{HasConsumed, IsAfter}
use Rattle.hsms_compare.proofs.connections.LogContradiction.first.Given as goal

abbrev pub invariant-loop-host_left : goal.invariant-loop-host_left
invariant-loop-host_left l = record {
  gone : HasConsumed l.host l.equipment l.host_left l.equipment_left;
  after_host : IsAfter l.host l.host_left;
  after_equipment : IsAfter l.equipment l.equipment_left;
}

abbrev pub decreases-loop-host_left : goal.decreases-loop-host_left
decreases-loop-host_left l = length l.host_left + length l.equipment_left
