use Rattle.hsms_compare.proofs.Merges.{takes_host, takes_equipment}
use Rattle.hsms_compare.proofs.merge.Merge.add.Goals as goal

pub returns-in-Host-clause-step : goal.returns-in-Host-clause-step
returns-in-Host-clause-step c =
    takes_host c.step.result c.args.self.now (record { to_host = c.step.new.coming; to_equipment = c.step.new.outbound })
    (record { position = c.args.position; entry = c.args.entry.now }) c.args.end c.in-Host.is c.step.ensures.follows

pub returns-in-Equipment-clause-step : goal.returns-in-Equipment-clause-step
returns-in-Equipment-clause-step c =
    takes_equipment c.step-in-Equipment.result c.args.self.now (record { to_host = c.step-in-Equipment.new.outbound; to_equipment = c.step-in-Equipment.new.coming })
    (record { position = c.args.position; entry = c.args.entry.now }) c.args.end c.in-Equipment.is c.step-in-Equipment.ensures.follows
