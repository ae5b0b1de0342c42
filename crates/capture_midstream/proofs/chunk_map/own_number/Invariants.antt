use Rattle.std.proofs.Common.{◌≡◌, length}
use Rattle.capture_midstream.specs.BufferedPacket.{own_number}
use Rattle.capture_midstream.proofs.chunk_map.own_number.Given as goal

-- the packets so far tell none
abbrev pub invariant-loop-packet : goal.invariant-loop-packet
invariant-loop-packet l = own_number l.side l.rest ≡ own_number l.side l.packets

abbrev pub decreases-loop-packet : goal.decreases-loop-packet
decreases-loop-packet l = length l.rest
