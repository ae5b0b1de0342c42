use Rattle.hsms_endpoint.proofs.Single.{fault_is_unique, acts_have_one_outcome}
use Rattle.hsms_endpoint.proofs.laws.each_act_has_one_outcome.Goals as goal

pub returns-clause-fault : goal.returns-clause-fault
returns-clause-fault c = fault_is_unique

pub returns-clause-acts : goal.returns-clause-acts
returns-clause-acts c = acts_have_one_outcome
