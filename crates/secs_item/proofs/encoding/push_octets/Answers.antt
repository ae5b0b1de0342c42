use Rattle.std.proofs.Common.{rules}
use Rattle.secs_item.proofs.Bodies.{flat_octets}
use Rattle.secs_item.proofs.encoding.push_octets.Goals as goal

pub returns-clause-octets : goal.returns-clause-octets
returns-clause-octets c = rw (flat_octets c.args.values.now) (search rules)
