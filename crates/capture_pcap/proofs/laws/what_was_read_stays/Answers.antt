use Rattle.capture_pcap.proofs.UnchangedBlocks.{reported_stays}
use Rattle.capture_pcap.proofs.laws.what_was_read_stays.Goals as goal

pub returns : goal.returns
returns c = reported_stays
