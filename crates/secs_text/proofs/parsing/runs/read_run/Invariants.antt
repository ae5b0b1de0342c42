use Rattle.std.proofs.Common.{◌≤◌, ◌-◌, ◌*◌, take, drop}
use Rattle.secs_text.specs.InnerByteWord.{AreShortWords}
use Rattle.secs_text.proofs.parsing.runs.read_run.Given as goal

abbrev pub invariant-loop-read : goal.invariant-loop-read
invariant-loop-read g l = record {
  words : AreShortWords g.W.ShortWord.reads g.row.N (take l.read l.octets) l.text (drop (g.row.N * l.read) l.text);
  few : l.read ≤ l.most;
}

abbrev pub decreases-loop-read : goal.decreases-loop-read
decreases-loop-read g l = l.most - l.read
