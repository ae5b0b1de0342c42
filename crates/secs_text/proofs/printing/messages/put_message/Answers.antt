use Rattle.std.proofs.Common.{arith}
use Rattle.std.proofs.lemmas.Bool.Decides.{nat_tests}
use Rattle.secs_item.proofs.Prefixes.{text_measured}
use Rattle.secs_text.proofs.PrintingMessages.{no_item, with_item}
use Rattle.secs_text.proofs.printing.messages.put_message.Goals as goal

pub put_item-at-requires-clause-measured : goal.put_item-at-requires-clause-measured
put_item-at-requires-clause-measured g c = text_measured c.args.depth c.args.text.now (grind (arith, nat_tests)) c.requires.measured

pub returns-then-is_empty-clause-puts : goal.returns-then-is_empty-clause-puts
returns-then-is_empty-clause-puts g c = λ item text. no_item c.args.head.stream c.args.head.function c.args.head.wait c.args.depth c.args.text.now item (grind (arith, nat_tests)) text c.put_head-at.ensures c.put_stop.ensures

pub returns-clause-puts : goal.returns-clause-puts
returns-clause-puts g c = λ item text. with_item c.args.head.stream c.args.head.function c.args.head.wait c.args.depth c.args.text.now item (grind (arith, nat_tests)) text c.put_head-at.ensures c.put_item-at.ensures.puts c.put_stop-2.ensures
