use Rattle.std.proofs.Common.{◌≡◌, ◌+◌, drop, length}
use Rattle.hsms_compare_causes.specs.OwnOutcome.{session_of}
use Rattle.hsms_compare_causes.proofs.indexed_log.session_length.Given as goal

abbrev pub invariant-loop-i : goal.invariant-loop-i
invariant-loop-i l = length (session_of l.log) ≡ l.i + length (session_of (drop l.i l.log))
