use Rattle.hsms_compare_repair.proofs.LogsAgree.{can_agree-swap, no_facts}
use Rattle.hsms_compare_repair.proofs.laws.no_facts_of_logs_that_can_agree.Goals as goal

pub returns-clause-facts : goal.returns-clause-facts
returns-clause-facts c = no_facts

pub returns-clause-both_ways : goal.returns-clause-both_ways
returns-clause-both_ways c = can_agree-swap
