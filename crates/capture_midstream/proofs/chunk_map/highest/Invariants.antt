use Rattle.std.proofs.Common.{◌≡◌, ◌≤◌, length, map}
use Rattle.capture_tcp.specs.declared.packet.Side.{Side}
use Rattle.capture_midstream.specs.BufferedPacket.{highest, midst}
use Rattle.capture_midstream.specs.InnerBufferedPacket.{placed_by}
use Rattle.capture_midstream.proofs.chunk_map.highest.Given as goal

abbrev pub invariant-loop-piece : goal.invariant-loop-piece
invariant-loop-piece l =
    ((side : Side) → highest l.high (map (placed_by side) l.rest) ≡ highest midst (map (placed_by side) l.pieces)) × (midst ≤ l.high)

abbrev pub decreases-loop-piece : goal.decreases-loop-piece
decreases-loop-piece l = length l.rest
