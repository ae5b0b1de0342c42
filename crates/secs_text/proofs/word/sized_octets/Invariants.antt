use Rattle.std.proofs.Common.{◌≡◌, ◌*◌, length, take, drop}
use Rattle.secs_text.specs.Words.{hex_octets}
use Rattle.secs_text.proofs.Hexadecimal.{after_octets}
use Rattle.secs_text.proofs.word.sized_octets.Given as goal

abbrev pub invariant-loop-i : goal.invariant-loop-i
invariant-loop-i g l = record {
  length : length l.octets ≡ g.row.N;
  read : hex_octets l.digits ≡ after_octets (take l.i l.octets) (hex_octets (drop (2 * l.i) l.digits));
}
