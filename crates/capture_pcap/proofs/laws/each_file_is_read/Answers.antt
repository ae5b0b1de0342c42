use Rattle.capture_pcap.proofs.ReaderSteps.{each_is_read}
use Rattle.capture_pcap.proofs.laws.each_file_is_read.Goals as goal

pub returns : goal.returns
returns c = each_is_read
