use Rattle.secs_text.proofs.Numbers.{digits_front}
use Rattle.secs_text.proofs.word.head_of.Goals as goal

pub head_of_parts-requires-clause-all : goal.head_of_parts-requires-clause-all
head_of_parts-requires-clause-all c = digits_front _ c.split_at.result.0.now c.leading_number-digits.result.0 c.leading_number-digits.ensures.length c.split_at.ensures.front
