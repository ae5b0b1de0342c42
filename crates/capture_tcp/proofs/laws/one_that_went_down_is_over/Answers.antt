use Rattle.capture_tcp.proofs.UpToDown.{closed_where_down, down_is_all, down_is_closed}
use Rattle.capture_tcp.proofs.laws.one_that_went_down_is_over.Goals as goal

pub returns-clause-over : goal.returns-clause-over
returns-clause-over c = closed_where_down

pub returns-clause-whole : goal.returns-clause-whole
returns-clause-whole c = down_is_closed

pub returns-clause-all : goal.returns-clause-all
returns-clause-all c = down_is_all
