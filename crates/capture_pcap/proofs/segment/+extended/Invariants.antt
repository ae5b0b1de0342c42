use Rattle.capture_pcap.proofs.segment.+extended.Given as goal

abbrev pub decreases-extended : goal.decreases-extended
decreases-extended l = l.left
