use Rattle.std.proofs.Common.{◌≤◌}
use Rattle.std.specs.Map.{values_of}
use Rattle.hsms_machine.specs.InnerOpeningOrder.{first_open}
use Rattle.hsms_machine.proofs.transaction_map.Slots.next_open.Given as goal

abbrev pub invariant-loop-index : goal.invariant-loop-index
invariant-loop-index l = l.index ≤ first_open (values_of l.map.entries)
