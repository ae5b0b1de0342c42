-- The failed requests of both endpoints of a connection.
use Rattle.std.specs.Prelude.{◌≡◌, ◌||◌, Bool, true, false, [], Option, Some, None}
use Rattle.hsms_machine.specs.Settings.{Parameters}
use Rattle.hsms_compare.specs.declared.line_contradiction.LineContradiction.{LineContradiction}
use Rattle.hsms_compare_causes.specs.declared.connection_log.ConnectionLog.{ConnectionLog}
use Rattle.hsms_compare_causes.specs.declared.traced_log.TracedLog.{TracedLog}
use Rattle.hsms_compare_causes.specs.Counterparts.{IsTracedLog}
use Rattle.hsms_compare_causes.specs.Failures.{AreFailures}
use Rattle.hsms_compare_repair.specs.declared.pair.LogFrames.{LogFrames}
use Rattle.hsms_compare_logs.specs.declared.pair_failures.PairFailures.{PairFailures}
use Rattle.hsms_compare_logs.specs.DataFrames.{has_data}

-- True if two logs decide what became of requests: they do not contradict each other, and are of one connection. If a log
-- is of version 2 and neither endpoint receives data, they may be of two connections.
abbrev pub are_decided : Option LineContradiction → Bool → (host equipment : LogFrames) → Bool
are_decided (Some contradiction) in_order host equipment = false
are_decided None in_order host equipment = in_order || (has_data host || has_data equipment)

-- Holds if these are the failed requests of two logs that agree.
pub record HaveFailures (host equipment : ConnectionLog) (s t : Parameters) (failures : PairFailures) : Type 0 where
  pub host_log : TracedLog
  pub equipment_log : TracedLog
  pub host_so : IsTracedLog host equipment host_log
  pub equipment_so : IsTracedLog equipment host equipment_log
  pub of_host_so : AreFailures host_log equipment_log s 0 host_log.entries failures.of_host.items
  pub of_equipment_so : AreFailures equipment_log host_log t 0 equipment_log.entries failures.of_equipment.items

-- Holds if these are the failed requests, or none if the logs do not decide it.
abbrev pub AreFailuresIf : Bool → (host equipment : ConnectionLog) → (s t : Parameters) → PairFailures → Type 0
AreFailuresIf true host equipment s t failures = HaveFailures host equipment s t failures
AreFailuresIf false host equipment s t failures = (failures.of_host.items ≡ []) × (failures.of_equipment.items ≡ [])
