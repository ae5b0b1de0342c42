use Rattle.capture_pcap.proofs.ReaderSteps.{each_rest}
use Rattle.capture_pcap.proofs.laws.each_rest_is_read.Goals as goal

pub returns : goal.returns
returns c = each_rest
