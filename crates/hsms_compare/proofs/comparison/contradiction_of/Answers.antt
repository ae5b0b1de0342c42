use Rattle.hsms_compare.proofs.OpenLogs.{agree_iff}
use Rattle.hsms_compare.proofs.comparison.contradiction_of.Goals as goal

pub returns-clause-agree : goal.returns-clause-agree
returns-clause-agree c =
    agree_iff c.args.host_open c.args.equipment_open c.args.host.now c.args.equipment.now c.contradiction_at.result c.contradiction_at.ensures
