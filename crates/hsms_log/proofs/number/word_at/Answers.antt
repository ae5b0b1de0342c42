use Rattle.hsms_log.proofs.Numbers.{split_word}
use Rattle.hsms_log.proofs.number.word_at.Goals as goal

pub returns : goal.returns
returns c = split_word _ _ c.split_at_first.ensures.found c.split_at_first.ensures.none
