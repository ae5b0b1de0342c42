use Rattle.std.proofs.Common.{◌≡◌, ◌+◌, ◌*◌, length, take, drop}
use Rattle.secs_text.specs.InnerByteWord.{AreShortWords}
use Rattle.secs_text.proofs.parsing.runs.read_words.Given as goal

abbrev pub invariant-loop-i : goal.invariant-loop-i
invariant-loop-i g l = record {
  words : AreShortWords g.W.ShortWord.reads g.row.N (take (l.from + l.i) l.octets) l.text (drop (g.row.N * (l.from + l.i)) l.text);
  room : length l.octets ≡ 64;
}
