use Rattle.hsms_machine.proofs.Runs.{run-front, run-next}
use Rattle.hsms_machine.proofs.laws.front_of_run_is_run.Goals as goal

pub returns-clause-front : goal.returns-clause-front
returns-clause-front c = run-front

pub returns-clause-next : goal.returns-clause-next
returns-clause-next c = run-next
