use Rattle.capture_pcap.proofs.segment.+tagged.Given as goal

abbrev pub decreases-tagged : goal.decreases-tagged
decreases-tagged l = l.left
