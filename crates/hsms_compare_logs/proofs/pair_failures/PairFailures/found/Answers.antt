use Rattle.hsms_compare_logs.proofs.pair_failures.PairFailures.found.Goals as goal

pub returns : goal.returns
returns c = record {
  host_log = c.in_ok-logs.logs.host;
  equipment_log = c.in_ok-logs.logs.equipment;
  host_so = c.in_ok-logs.ensures.host;
  equipment_so = c.in_ok-logs.ensures.equipment;
  of_host_so = c.in_ok-failures_of.ensures;
  of_equipment_so = c.in_ok-failures_of-2.ensures;
}
