use Rattle.std.proofs.Common.{◌≡◌, ◌≤◌, ◌+◌, length}
use Rattle.secs_text.proofs.PrintingText.{TextOn}
use Rattle.secs_text.proofs.printing.values.put_text.Given as goal

abbrev pub invariant-loop-rest : goal.invariant-loop-rest
invariant-loop-rest g l = record {
  free : l.at + 24704 ≤ 65536;
  size : length l.block ≡ 65536;
  text : TextOn (g.O.Output.Given l.fn.out) l.initial.block l.from (g.O.Output.Given l.out) l.block l.at l.in_quotes l.rest l.octets;
}

abbrev pub decreases-loop-rest : goal.decreases-loop-rest
decreases-loop-rest g l = length l.rest
