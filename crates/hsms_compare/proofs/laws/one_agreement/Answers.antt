use Rattle.hsms_compare.proofs.Histories.{agree-swap}
use Rattle.hsms_compare.proofs.CausesFirst.{one_agreement}
use Rattle.hsms_compare.proofs.laws.one_agreement.Goals as goal

pub returns-clause-one : goal.returns-clause-one
returns-clause-one c = one_agreement

pub returns-clause-both_ways : goal.returns-clause-both_ways
returns-clause-both_ways c = agree-swap
