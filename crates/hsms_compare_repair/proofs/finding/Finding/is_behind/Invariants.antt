use Rattle.std.proofs.Common.{ℕ, ◌<◌}
use Rattle.hsms_compare_repair.specs.Findings.{IsBehind}
use Rattle.hsms_compare_repair.proofs.finding.Finding.is_behind.Given as goal

abbrev pub invariant-loop-number : goal.invariant-loop-number
invariant-loop-number l = (m : ℕ) → m < l.number → IsBehind l.sent l.next l.frame m → ⊥
