use Rattle.std.proofs.Common.{◌≡◌, length}
use Rattle.capture_midstream.specs.BufferedPacket.{acknowledged_number}
use Rattle.capture_midstream.proofs.chunk_map.acknowledged_number.Given as goal

-- the packets so far tell none
abbrev pub invariant-loop-packet : goal.invariant-loop-packet
invariant-loop-packet l = acknowledged_number l.side l.rest ≡ acknowledged_number l.side l.packets

abbrev pub decreases-loop-packet : goal.decreases-loop-packet
decreases-loop-packet l = length l.rest
