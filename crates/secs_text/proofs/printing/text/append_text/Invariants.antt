use Rattle.std.proofs.Common.{◌≡◌, ◌≤◌, ◌+◌, ◌*◌, length}
use Rattle.secs_text.proofs.PrintingText.{TextAppended}
use Rattle.secs_text.proofs.printing.text.append_text.Given as goal

abbrev pub invariant-loop-run : goal.invariant-loop-run
invariant-loop-run l = record {
  near : l.at + 48 * length l.rest ≤ l.from + 48 * length l.octets;
  size : length l.block ≡ length l.initial.block;
  appended_text : TextAppended l.initial.block l.from l.quoted l.octets l.block l.at l.in_quotes l.rest;
}

abbrev pub decreases-loop-run : goal.decreases-loop-run
decreases-loop-run l = length l.rest
