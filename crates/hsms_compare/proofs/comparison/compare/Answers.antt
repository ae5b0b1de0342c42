use Rattle.std.proofs.Common.{take, arith}
use Rattle.hsms_machine.specs.declared.settings.Role.TheVariants.{Host, Equipment}
use Rattle.hsms_compare.proofs.Agreements.{merged, is_merge-swap, lost_so}
use Rattle.hsms_compare.proofs.comparison.compare.Goals as goal

pub returns-then-equipment_reach-equipment_entries-clause-furthest : goal.returns-then-equipment_reach-equipment_entries-clause-furthest
returns-then-equipment_reach-equipment_entries-clause-furthest c =
    let host = c.args.host.now in
    let equipment = c.args.equipment.now in
    let before = c.loop-merge.invariant.merged in
    let between = is_merge-swap Host _ _ _ (c.in_ok-host_reach.ensures.reached (take c.loop-merge.equipment_entries equipment) before) in
    merged host equipment c.in_ok-host_reach.host_reach.entries c.in_ok-equipment_reach.equipment_reach.entries c.loop-merge.equipment_entries _ c.in_ok-host_reach.host_reach.stop c.in_ok-equipment_reach.equipment_reach.stop
    (omega (arith, c.in_ok-host_reach.ensures.within)) (omega (arith, c.in_ok-equipment_reach.ensures.within))
    (c.in_ok-equipment_reach.ensures.reached (take c.in_ok-host_reach.host_reach.entries host) between)
    c.if-equipment_reach-equipment_entries.true
    (c.in_ok-host_reach.ensures.stops (take c.loop-merge.equipment_entries equipment) before)
    (c.in_ok-equipment_reach.ensures.stops (take c.in_ok-host_reach.host_reach.entries host) between)

pub returns-then-equipment_reach-equipment_entries-clause-equipment : goal.returns-then-equipment_reach-equipment_entries-clause-equipment
returns-then-equipment_reach-equipment_entries-clause-equipment c =
    c.in_ok-equipment_reach.ensures.stops (take c.in_ok-host_reach.host_reach.entries c.args.host.now)
    (is_merge-swap Host _ _ _ (c.in_ok-host_reach.ensures.reached (take c.loop-merge.equipment_entries c.args.equipment.now) c.loop-merge.invariant.merged))

pub loop-merge-preserved : goal.loop-merge-preserved
loop-merge-preserved c = record {
  within_host = omega (arith, c.in_ok-host_reach.ensures.within);
  within_equipment = omega (arith, c.in_ok-equipment_reach.ensures.within);
  merged = is_merge-swap Equipment _ _ _ (c.in_ok-equipment_reach.ensures.reached (take c.in_ok-host_reach.host_reach.entries c.args.host.now)
      (is_merge-swap Host _ _ _ (c.in_ok-host_reach.ensures.reached (take c.loop-merge.equipment_entries c.args.equipment.now) c.loop-merge.invariant.merged)));
}

pub returns-then-equipment_reach-equipment_entries-clause-lost : goal.returns-then-equipment_reach-equipment_entries-clause-lost
returns-then-equipment_reach-equipment_entries-clause-lost c =
    let host = take c.in_ok-host_reach.host_reach.entries c.args.host.now in
    let equipment = take c.in_ok-equipment_reach.equipment_reach.entries c.args.equipment.now in
    let between = c.in_ok-equipment_reach.ensures.reached host
    (is_merge-swap Host _ _ _ (c.in_ok-host_reach.ensures.reached (take c.loop-merge.equipment_entries c.args.equipment.now) c.loop-merge.invariant.merged)) in
    (lost_so equipment host _ (c.in_flight.ensures _ _ between), lost_so host equipment _ (c.in_flight-then-equipment_reach-equipment_entries.ensures _ _ (is_merge-swap Equipment _ _ _ between)))
