use Rattle.hsms_machine.specs.declared.settings.Role.TheVariants.{Host, Equipment}
use Rattle.hsms_compare.proofs.Merges.{counts_to}
use Rattle.hsms_compare.proofs.merge.Merge.in_flight.Goals as goal

pub returns-in-Host : goal.returns-in-Host
returns-in-Host c = counts_to c.args.end Host c.args.self.now c.len.result c.in-Host.is c.len.ensures

pub returns-in-Equipment : goal.returns-in-Equipment
returns-in-Equipment c = counts_to c.args.end Equipment c.args.self.now c.len-in-Equipment.result c.in-Equipment.is c.len-in-Equipment.ensures
