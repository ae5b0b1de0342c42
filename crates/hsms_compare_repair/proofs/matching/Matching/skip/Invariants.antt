use Rattle.std.proofs.Common.{◌≡◌, ◌++◌, replicate, true}
use Rattle.hsms_compare_repair.proofs.matching.Matching.skip.Given as goal

abbrev pub invariant-loop-i : goal.invariant-loop-i
invariant-loop-i l = l.skipped.items ≡ l.fn.skipped.items ++ replicate l._i true
