use Rattle.std.proofs.Common.{ℕ, ◌<◌}
use Rattle.hsms_compare_repair.specs.Findings.{IsSkipped}
use Rattle.hsms_compare_repair.proofs.finding.Finding.first_skipped.Given as goal

abbrev pub invariant-loop-number : goal.invariant-loop-number
invariant-loop-number l = (m : ℕ) → m < l.number → IsSkipped l.sent l.skipped l.frame m → ⊥
