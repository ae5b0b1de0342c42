use Rattle.std.proofs.Common.{length}
use Rattle.capture_midstream.proofs.Holding.{Holds}
use Rattle.capture_midstream.proofs.sync_search.held_of.Given as goal

-- the pieces so far are held
abbrev pub invariant-loop-piece : goal.invariant-loop-piece
invariant-loop-piece l = Holds l.from l.pieces l.rest l.held

abbrev pub decreases-loop-piece : goal.decreases-loop-piece
decreases-loop-piece l = length l.rest
