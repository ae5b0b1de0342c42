use Rattle.std.proofs.Common.{◌≡◌, true, take}
use Rattle.std.specs.List.{list_all}
use Rattle.secs_text.specs.Octets.{is_white}
use Rattle.secs_text.proofs.byte_class.long_white_length.Given as goal

abbrev pub invariant-loop-i : goal.invariant-loop-i
invariant-loop-i l = list_all is_white (take l.i l.octets) ≡ true
