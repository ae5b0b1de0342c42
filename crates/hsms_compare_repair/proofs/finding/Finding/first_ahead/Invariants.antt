use Rattle.std.proofs.Common.{◌≤◌, ◌<◌, ℕ}
use Rattle.hsms_compare_repair.specs.Findings.{IsSent}
use Rattle.hsms_compare_repair.proofs.finding.Finding.first_ahead.Given as goal

abbrev pub invariant-loop-number : goal.invariant-loop-number
invariant-loop-number l = (m : ℕ) → l.next ≤ m → m < l.number → IsSent l.sent l.frame m → ⊥
