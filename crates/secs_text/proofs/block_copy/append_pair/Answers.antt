use Rattle.secs_text.proofs.Blocks.{pairs_right}
use Rattle.secs_text.proofs.block_copy.append_pair.Goals as goal

pub returns-clause-appended_text : goal.returns-clause-appended_text
returns-clause-appended_text c = rw (c.split_at.ensures.back, pairs_right c.args.number c.requires.small) at c.append_word.ensures.appended_text
