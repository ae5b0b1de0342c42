use Rattle.std.proofs.Common.{◌≤◌, ◌+◌, ◌*◌, length}
use Rattle.secs_text.specs.InnerBlockOutput.{words_of}
use Rattle.secs_text.proofs.PrintingValues.{AppendedSoFar}
use Rattle.secs_text.proofs.printing.values.append_words.Given as goal

abbrev pub invariant-loop-first : goal.invariant-loop-first
invariant-loop-first g l = record {
  room : l.end + 48 * length l.rest ≤ length l.block;
  appended_text : AppendedSoFar l.initial.block l.block l.at l.end (words_of g.W.WordFormat.printed g.row.N l.octets) (words_of g.W.WordFormat.printed g.row.N l.rest);
}

abbrev pub decreases-loop-first : goal.decreases-loop-first
decreases-loop-first g l = length l.rest
