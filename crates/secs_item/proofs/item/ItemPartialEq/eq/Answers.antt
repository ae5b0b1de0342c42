use Rattle.secs_item.specs.Item.{view}
use Rattle.secs_item.specs.Equality.{same_value, same_value-Decides}
use Rattle.secs_item.proofs.Equals.{decides_same}
use Rattle.secs_item.proofs.item.ItemPartialEq.eq.Goals as goal

pub returns-clause-eq : goal.returns-clause-eq
returns-clause-eq c = decides_same c.same_item.result (same_value (view c.args.self.now) (view c.args.other.now)) c.same_item.ensures (same_value-Decides (view c.args.self.now) (view c.args.other.now))
