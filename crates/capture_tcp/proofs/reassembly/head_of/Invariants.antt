use Rattle.std.proofs.Common.{◌≡◌, ◌<◌, ◌≤◌, ◌-◌, ◌^◌, drop}
use Rattle.capture_tcp.specs.Cells.{all_of}
use Rattle.capture_tcp.specs.Reassembly.{in_piece}
use Rattle.capture_tcp.specs.InnerReassembly.{further}
use Rattle.capture_tcp.specs.Message.{message_size, size_by}
use Rattle.capture_tcp.proofs.reassembly.head_of.Given as goal

abbrev pub invariant-loop-index : goal.invariant-loop-index
invariant-loop-index l =
    (further l.index (size_by (4 - l.index) l.value (in_piece (drop l.index (drop l.first (all_of l.cells))))) ≡ message_size (in_piece (drop l.first (all_of l.cells))))
    × (l.index ≤ 4) × (l.value < 256 ^ l.index)

abbrev pub decreases-loop-index : goal.decreases-loop-index
decreases-loop-index l = 4 - l.index
