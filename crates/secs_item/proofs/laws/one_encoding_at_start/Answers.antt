use Rattle.secs_item.proofs.Uniqueness.{same_front}
use Rattle.secs_item.proofs.laws.one_encoding_at_start.Goals as goal

pub returns : goal.returns
returns c = same_front
