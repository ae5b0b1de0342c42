use Rattle.hsms_machine.proofs.SingleConnections.{keeps_runs, keeps_answers, is_one_connection}
use Rattle.hsms_machine.proofs.laws.version_one_is_kept.Goals as goal

pub returns-clause-runs : goal.returns-clause-runs
returns-clause-runs c = keeps_runs

pub returns-clause-answers : goal.returns-clause-answers
returns-clause-answers c = keeps_answers

pub returns-clause-whole : goal.returns-clause-whole
returns-clause-whole c = is_one_connection
