use Rattle.hsms_ends.proofs.PassingLogs.{served_passes}
use Rattle.hsms_ends.proofs.laws.served_log_passes.Goals as goal

pub returns : goal.returns
returns g c = served_passes g.D.TurnDesk.answers_after
