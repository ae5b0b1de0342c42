use Rattle.std.proofs.Common.{◌++◌, List, drop}
use Rattle.hsms_compare_causes.specs.declared.failed_request.FailedRequest.{FailedRequest}
use Rattle.hsms_compare_causes.specs.Failures.{AreFailures}
use Rattle.hsms_compare_causes.proofs.failures.failures_of.Given as goal

abbrev pub invariant-loop-i : goal.invariant-loop-i
invariant-loop-i l = (later : List FailedRequest)
    → AreFailures l.own l.other l.settings l.i (drop l.i l.own.entries) later
    → AreFailures l.own l.other l.settings 0 l.own.entries (l.found.items ++ later)
