use Rattle.hsms_frame.proofs.Results.{some_framed, no_other_framed}
use Rattle.hsms_frame.proofs.laws.one_answer_to_pending.Goals as goal

pub returns-clause-some : goal.returns-clause-some
returns-clause-some c = some_framed

pub returns-clause-one : goal.returns-clause-one
returns-clause-one c = no_other_framed
