use Rattle.hsms_compare_repair.proofs.LogsAgree.{early_ends, no_contradiction}
use Rattle.hsms_compare_repair.proofs.laws.logs_that_end_early_agree.Goals as goal

pub returns-clause-agree : goal.returns-clause-agree
returns-clause-agree c = early_ends

pub returns-clause-none : goal.returns-clause-none
returns-clause-none c = no_contradiction
