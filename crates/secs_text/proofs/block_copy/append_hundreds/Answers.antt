use Rattle.std.proofs.Common.{arith}
use Rattle.secs_text.proofs.Blocks.{appended_then, appended_same, decimal_hundreds}
use Rattle.secs_text.proofs.block_copy.append_hundreds.Goals as goal

pub returns-clause-appended_text : goal.returns-clause-appended_text
returns-clause-appended_text c = appended_same _ (decimal_hundreds c.args.number (omega arith) (omega arith)) (appended_then c.append_small-at.ensures.appended_text c.append_pair.ensures.appended_text)
