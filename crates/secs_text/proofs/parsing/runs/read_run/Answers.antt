use Rattle.std.proofs.Common.{arith}
use Rattle.secs_text.proofs.ShortWords.{all_but_one}
use Rattle.secs_text.proofs.parsing.runs.read_run.Goals as goal

pub returns-then-is_of_word-clause-words : goal.returns-then-is_of_word-clause-words
returns-then-is_of_word-clause-words g c =
    let read = c.read_words-count in
    (all_but_one g.W.ShortWord.reads g.row.N read.new.octets read.result c.args.text.now _ c.if-count-gt0.true (omega (arith, read.array_long, read.ensures.before, c.min-most.ensures)) read.ensures.words).0

pub returns-then-is_of_word-clause-ends : goal.returns-then-is_of_word-clause-ends
returns-then-is_of_word-clause-ends g c =
    let read = c.read_words-count in
    λ _. (all_but_one g.W.ShortWord.reads g.row.N read.new.octets read.result c.args.text.now _ c.if-count-gt0.true (omega (arith, read.array_long, read.ensures.before, c.min-most.ensures)) read.ensures.words).1
