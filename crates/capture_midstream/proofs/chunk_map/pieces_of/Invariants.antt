use Rattle.std.proofs.Common.{◌≡◌, ◌++◌, length, map}
use Rattle.capture_midstream.specs.BufferedPacket.{pieces_from}
use Rattle.capture_midstream.specs.InnerBufferedPacket.{placed_by}
use Rattle.capture_midstream.proofs.chunk_map.pieces_of.Given as goal

-- the pieces so far, and those of the packets that are left
abbrev pub invariant-loop-packet : goal.invariant-loop-packet
invariant-loop-packet l =
    map (placed_by l.side) l.pieces.items ++ pieces_from l.side l.first l.acknowledged l.rest ≡ pieces_from l.side l.first 0 l.packets

abbrev pub decreases-loop-packet : goal.decreases-loop-packet
decreases-loop-packet l = length l.rest
