use Rattle.std.proofs.Common.{◌≡◌, ◌≤◌, ◌-◌, length}
use Rattle.hsms_frame.specs.Io.{IfRecorded}
use Rattle.capture_pcap.specs.File.{front_at}
use Rattle.hsms_frame.specs.ReadAhead.{ReadsMore}
use Rattle.capture_pcap.specs.BlockReader.{greatest_ahead}
use Rattle.capture_pcap.proofs.packet_reader.next_front.Given as goal

-- More was read after what was read before, the end was not found, and no read failed.
abbrev pub invariant-loop-found : goal.invariant-loop-found
invariant-loop-found g l =
    IfRecorded (g.R.Source.state l.initial.source).left (λ input. ReadsMore l.initial.ahead input l.ahead (g.R.Source.state l.source).left)
    × (l.found ≡ front_at l.reader l.ahead)
    × ((g.R.Source.state l.source).ends ≡ (g.R.Source.state l.initial.source).ends)
    × ((g.R.Source.state l.source).failures ≡ (g.R.Source.state l.initial.source).failures)
    × (length l.ahead ≤ greatest_ahead)

-- An incomplete record or block is shorter than 16,777,232 bytes.
abbrev pub decreases-loop-found : goal.decreases-loop-found
decreases-loop-found g l = 16777232 - length l.ahead
