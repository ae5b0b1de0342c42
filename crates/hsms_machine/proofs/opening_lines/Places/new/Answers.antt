use Rattle.hsms_machine.proofs.Timely.{new_until}
use Rattle.hsms_machine.proofs.Placed.{no_places}
use Rattle.hsms_machine.proofs.opening_lines.Places.new.Goals as goal

pub invariant_of-result : goal.invariant_of-result
invariant_of-result c = new_until c.args.settings c.new.result c.new.ensures

pub returns-clause-places : goal.returns-clause-places
returns-clause-places c = no_places c.args.settings c.new.result c.new.ensures
