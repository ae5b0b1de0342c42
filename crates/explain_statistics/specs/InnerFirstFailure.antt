-- What only contracts of private functions use, besides the definitions of `FirstFailure`.
use Rattle.std.specs.Prelude.{◌≡◌, ◌≤◌, ℕ, List, length}
use Rattle.hsms_log.specs.Verdict.{LineFails}
use Rattle.explain_statistics.specs.declared.failure_counts.Failed.{Failed}
use Rattle.explain_lines.specs.Counted.{counted}

-- Holds if this is the first failure of these lines.
abbrev pub FailsFirst : List (List ℕ) → Failed → Type 0
FailsFirst lines failed = (n : ℕ) × (failed.line ≡ counted n) × (n ≤ length lines) × LineFails lines n failed.why
