use Rattle.hsms_compare_causes.proofs.failures.failure_at.Goals as goal

pub returns : goal.returns
returns c = record { traced = c.of.result; traced_so = c.of.ensures; failure_so = c.failure.ensures }
