use Rattle.std.proofs.Common.{arith}
use Rattle.std.proofs.lemmas.Bool.Decides.{nat_tests}
use Rattle.secs_item.proofs.Prefixes.{text_none}
use Rattle.secs_item.proofs.decode.decode_text.Goals as goal

pub returns-then-is_empty-clause-ok_where : goal.returns-then-is_empty-clause-ok_where
returns-then-is_empty-clause-ok_where c = λ text h. text_none c.args.depth c.args.octets.now text (grind (arith, nat_tests)) h
