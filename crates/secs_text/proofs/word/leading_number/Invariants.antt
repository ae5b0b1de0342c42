use Rattle.std.proofs.Common.{◌≡◌, ◌%◌, ◌^◌, true, take}
use Rattle.std.specs.List.{list_all}
use Rattle.std.specs.Str.Parse.{digits_value}
use Rattle.secs_text.specs.Octets.{is_digit}
use Rattle.secs_text.proofs.word.leading_number.Given as goal

abbrev pub invariant-loop-i : goal.invariant-loop-i
invariant-loop-i l = record { all : list_all is_digit (take l.i l.octets) ≡ true; value : l.number ≡ digits_value 10 (take l.i l.octets) % 2 ^ 64 }
