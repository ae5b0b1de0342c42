use Rattle.hsms_compare.proofs.ByteStreams.{streamed}
use Rattle.hsms_compare.proofs.laws.streamed_logs_agree.Goals as goal

pub returns : goal.returns
returns c = streamed
