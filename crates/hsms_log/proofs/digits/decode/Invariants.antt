use Rattle.std.proofs.Common.{◌≡◌, ◌≤◌, ◌<◌, ◌*◌, ℕ, get_or, length}
use Rattle.hsms_log.specs.InnerDigits.{AreRead, AreSmall, HasOther}
use Rattle.hsms_log.proofs.digits.decode.Given as goal

-- The bytes before this index are read if all values for digits are small; otherwise some byte is not a digit.
abbrev pub invariant-loop-i : goal.invariant-loop-i
invariant-loop-i l = record {
  len : length l.octets ≡ length l.initial.octets;
  read : AreSmall l.greatest → AreRead l.digits l.octets (8 * l.i);
  other : (k : ℕ) → k < 16 → 16 ≤ get_or l.greatest k 0 → HasOther l.digits;
}
