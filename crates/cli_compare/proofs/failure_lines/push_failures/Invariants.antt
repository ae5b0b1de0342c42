use Rattle.std.proofs.Common.{◌≡◌, ◌++◌, take}
use Rattle.std.specs.Prelude.{string_bytes}
use Rattle.cli_compare.specs.FailureLines.{failure_lines}
use Rattle.cli_compare.proofs.failure_lines.push_failures.Given as goal

abbrev pub invariant-loop-failed : goal.invariant-loop-failed
invariant-loop-failed l =
    string_bytes l.text ≡ string_bytes l.fn.text ++ failure_lines l.end (take l.failed-index l.failures)
