use Rattle.hsms_machine.proofs.Listed.{lists_open}
use Rattle.hsms_machine.proofs.laws.view_lists_what_is_open.Goals as goal

pub returns : goal.returns
returns c = lists_open
