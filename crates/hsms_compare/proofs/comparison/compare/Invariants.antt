use Rattle.std.proofs.Common.{◌≤◌, ◌-◌, take, length}
use Rattle.hsms_machine.specs.declared.settings.Role.TheVariants.{Host}
use Rattle.hsms_compare.specs.InnerConversation.{numbered}
use Rattle.hsms_compare.specs.Merge.{IsMergeOf}
use Rattle.hsms_compare.proofs.comparison.compare.Given as goal

abbrev pub invariant-loop-merge : goal.invariant-loop-merge
invariant-loop-merge l = record {
  within_host : l.host_entries ≤ length l.host;
  within_equipment : l.equipment_entries ≤ length l.equipment;
  merged : IsMergeOf Host l.merge (numbered 0 (take l.host_entries l.host)) (numbered 0 (take l.equipment_entries l.equipment));
}

abbrev pub decreases-loop-merge : goal.decreases-loop-merge
decreases-loop-merge l = length l.equipment - l.equipment_entries
