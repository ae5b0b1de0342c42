use Rattle.hsms_compare.proofs.Connected.{IsWithin}
use Rattle.hsms_compare.proofs.connections.LogContradiction.first_length.Given as goal

abbrev pub invariant-loop-i : goal.invariant-loop-i
invariant-loop-i l = IsWithin l.log l.i
