use Rattle.hsms_machine.proofs.ValidEntries.{one_connection, each_follows_down, none_over_up}
use Rattle.hsms_machine.proofs.laws.connections_are_separate.Goals as goal

pub returns-clause-one : goal.returns-clause-one
returns-clause-one c = one_connection

pub returns-clause-several : goal.returns-clause-several
returns-clause-several c = each_follows_down

pub returns-clause-apart : goal.returns-clause-apart
returns-clause-apart c = none_over_up
