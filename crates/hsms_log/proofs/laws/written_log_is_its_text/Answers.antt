use Rattle.hsms_log.proofs.WrittenLog.{log_written}
use Rattle.hsms_log.proofs.laws.written_log_is_its_text.Goals as goal

pub returns : goal.returns
returns c = log_written
