use Rattle.capture_midstream.proofs.sync_point.+row.Given as goal

abbrev pub decreases-row : goal.decreases-row
decreases-row l = l.most
