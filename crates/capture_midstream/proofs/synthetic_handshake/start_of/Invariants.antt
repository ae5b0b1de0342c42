use Rattle.std.proofs.Common.{length}
use Rattle.capture_midstream.proofs.Starts.{Passed}
use Rattle.capture_midstream.proofs.synthetic_handshake.start_of.Given as goal

-- what the packets so far show
abbrev pub invariant-loop-packet : goal.invariant-loop-packet
invariant-loop-packet l = Passed l.active l.passive l.packets l.rest l.has_active l.has_passive l.time

abbrev pub decreases-loop-packet : goal.decreases-loop-packet
decreases-loop-packet l = length l.rest
