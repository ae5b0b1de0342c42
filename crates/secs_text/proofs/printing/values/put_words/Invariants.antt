use Rattle.std.proofs.Common.{◌≡◌, ◌≤◌, ◌+◌, length}
use Rattle.secs_text.specs.InnerBlockOutput.{words_of}
use Rattle.secs_text.proofs.PrintingValues.{WordsOn}
use Rattle.secs_text.proofs.printing.values.put_words.Given as goal

abbrev pub invariant-loop-rest : goal.invariant-loop-rest
invariant-loop-rest g l = record {
  free : l.at + 24704 ≤ 65536;
  size : length l.block ≡ 65536;
  puts : WordsOn (g.O.Output.Given l.fn.out) l.initial.block l.from (g.O.Output.Given l.out) l.block l.at (words_of g.W.WordFormat.printed g.row.N l.rest) (words_of g.W.WordFormat.printed g.row.N l.octets);
}

abbrev pub decreases-loop-rest : goal.decreases-loop-rest
decreases-loop-rest g l = length l.rest
