use Rattle.std.proofs.Common.{◌≡◌, true, take}
use Rattle.std.specs.List.{list_all}
use Rattle.secs_text.specs.Octets.{is_of_word}
use Rattle.secs_text.proofs.byte_class.word_length.Given as goal

abbrev pub invariant-loop-i : goal.invariant-loop-i
invariant-loop-i l = list_all is_of_word (take l.i l.octets) ≡ true
