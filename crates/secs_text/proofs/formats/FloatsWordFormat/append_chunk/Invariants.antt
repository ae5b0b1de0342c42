use Rattle.std.proofs.Common.{◌≤◌, ◌+◌, ◌*◌, ◌++◌, codes, take}
use Rattle.std.specs.List.{flat_map}
use Rattle.secs_text.specs.Printed.{two_digits}
use Rattle.secs_text.specs.InnerBlockOutput.{AppendsText}
use Rattle.secs_text.proofs.formats.FloatsWordFormat.append_chunk.Given as goal

abbrev pub invariant-loop-octet : goal.invariant-loop-octet
invariant-loop-octet g l = record {
  near : l.end ≤ l.at + 3 + 2 * l.octet-index;
  appended_text : AppendsText l.fn.block l.block l.at (codes " 0x" ++ flat_map two_digits (take l.octet-index l.octets)) l.end;
}
