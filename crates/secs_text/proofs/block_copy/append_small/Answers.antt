use Rattle.std.proofs.Common.{◌≡◌, ◌≤◌, ◌*◌, get_or, drop, arith}
use Rattle.secs_text.specs.declared.word_tables.TheConstants.{NUMBERS}
use Rattle.secs_text.proofs.Blocks.{numbers_right, numbers_short}
use Rattle.secs_text.proofs.block_copy.append_small.Goals as goal

pub append_word-requires-clause-there : goal.append_word-requires-clause-there
append_word-requires-clause-there c =
    let short = numbers_short c.args.number (omega arith) in
    let count : c.from-2.result ≡ get_or (drop (4 * c.args.number) NUMBERS) 3 0 = rw (c.split_at.ensures.back, c.from.ensures) at c.from-2.ensures in
    let few : c.from-2.result ≤ 4 = omega (arith, count, short) in
    few

pub returns-clause-appended_text : goal.returns-clause-appended_text
returns-clause-appended_text c =
    let count : c.from-2.result ≡ get_or (drop (4 * c.args.number) NUMBERS) 3 0 = rw (c.split_at.ensures.back, c.from.ensures) at c.from-2.ensures in
    rw (c.split_at.ensures.back, c.from.ensures, count, numbers_right c.args.number (omega arith)) at c.append_word.ensures.appended_text
