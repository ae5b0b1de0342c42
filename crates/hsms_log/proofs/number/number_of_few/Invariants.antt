use Rattle.std.proofs.Common.{◌≡◌, take, true}
use Rattle.std.specs.List.{list_all}
use Rattle.std.specs.Char.{is_ascii_digit}
use Rattle.std.specs.Str.Parse.{digits_value}
use Rattle.hsms_log.proofs.number.number_of_few.Given as goal

-- The bytes that were passed are digits, and this is their number.
abbrev pub invariant-loop-i : goal.invariant-loop-i
invariant-loop-i l =
    (list_all is_ascii_digit (take l.i l.text) ≡ true) × (l.number ≡ digits_value 10 (take l.i l.text))
