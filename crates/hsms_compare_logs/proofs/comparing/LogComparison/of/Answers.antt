use Rattle.std.proofs.Common.{Bool, subst}
use Rattle.hsms_compare_logs.specs.PairFailures.{AreFailuresIf}
use Rattle.hsms_compare_logs.proofs.comparing.LogComparison.of.Goals as goal

pub returns-clause-host : goal.returns-clause-host
returns-clause-host g c text reads entries =
    let left = c.in_ok-contradiction.ensures.host_text text (reads, entries) in
    (c.in_ok-host_end.ensures text left.0 left.1).log

pub returns-clause-equipment : goal.returns-clause-equipment
returns-clause-equipment g c text reads entries =
    let left = c.in_ok-contradiction.ensures.equipment_text text (reads, entries) in
    (c.in_ok-equipment_end.ensures text left.0 left.1).log

pub returns-clause-contradiction : goal.returns-clause-contradiction
returns-clause-contradiction g c h e host_more equipment_more host_others equipment_others at_host at_equipment =
    c.in_ok-contradiction.ensures.found h e host_more equipment_more (host_others, at_host) (equipment_others, at_equipment)

pub returns-clause-failures : goal.returns-clause-failures
returns-clause-failures g c text other reads entries reads' entries' h e has has' =
    let host_left = c.in_ok-contradiction.ensures.host_text text (reads, entries) in
    let equipment_left = c.in_ok-contradiction.ensures.equipment_text other (reads', entries') in
    let P : Bool → Type 0 = λ decided. AreFailuresIf decided c.in_ok-host_end.host_end.entries c.in_ok-equipment_end.equipment_end.entries c.args.host_settings.now c.args.equipment_settings.now c.in_ok-failures.failures in
    record {
      host = c.in_ok-host_end.host_end.entries;
      equipment = c.in_ok-equipment_end.equipment_end.entries;
      host_so = (c.in_ok-host_end.ensures text host_left.0 host_left.1).entries c.args.host_settings.now h has;
      equipment_so = (c.in_ok-equipment_end.ensures other equipment_left.0 equipment_left.1).entries c.args.equipment_settings.now e has';
      failures_so = subst P c.are_decided-is_decided.ensures c.in_ok-failures.ensures;
    }
