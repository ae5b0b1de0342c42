use Rattle.hsms_frame.proofs.Results.{some_answer, no_other}
use Rattle.hsms_frame.proofs.laws.one_answer_to_input.Goals as goal

pub returns-clause-some : goal.returns-clause-some
returns-clause-some c = some_answer

pub returns-clause-one : goal.returns-clause-one
returns-clause-one c = no_other
