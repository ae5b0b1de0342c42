use Rattle.secs_item.proofs.Uniqueness.{short_encodes}
use Rattle.secs_item.proofs.Shortest.{none_shorter, encoded_in_range}
use Rattle.secs_item.proofs.laws.shortest_encoding.Goals as goal

pub returns-clause-encodes_to : goal.returns-clause-encodes_to
returns-clause-encodes_to c = short_encodes

pub returns-clause-least : goal.returns-clause-least
returns-clause-least c = none_shorter

pub returns-clause-in_range : goal.returns-clause-in_range
returns-clause-in_range c = encoded_in_range
