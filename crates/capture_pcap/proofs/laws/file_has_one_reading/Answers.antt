use Rattle.capture_pcap.proofs.UniqueReading.{one_reading}
use Rattle.capture_pcap.proofs.laws.file_has_one_reading.Goals as goal

pub returns : goal.returns
returns c = one_reading
