use Rattle.std.proofs.Common.{arith}
use Rattle.secs_text.proofs.Blocks.{digits_right}
use Rattle.secs_text.proofs.block_copy.append_digits.Goals as goal

pub returns-clause-appended_text : goal.returns-clause-appended_text
returns-clause-appended_text c = rw (c.split_at.ensures.back, c.from.ensures, digits_right c.args.octet (omega arith)) at c.append_word.ensures.appended_text
