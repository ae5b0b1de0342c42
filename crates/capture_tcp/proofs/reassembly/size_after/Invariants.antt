use Rattle.std.proofs.Common.{◌≡◌, ◌≤◌, ◌+◌, drop}
use Rattle.capture_tcp.specs.Cells.{all_of}
use Rattle.capture_tcp.specs.Reassembly.{in_piece}
use Rattle.capture_tcp.specs.InnerReassembly.{further}
use Rattle.capture_tcp.specs.Message.{cells_to}
use Rattle.capture_tcp.proofs.reassembly.size_after.Given as goal

abbrev pub invariant-loop-left : goal.invariant-loop-left
invariant-loop-left l =
    (further l.index (cells_to l.left (in_piece (drop l.index (drop l.first (all_of l.cells))))) ≡ further l.fn.index (cells_to l.count (in_piece (drop l.fn.index (drop l.first (all_of l.cells))))))
    × (l.index + l.left ≡ l.fn.index + l.count) × (l.fn.index ≤ l.index)

abbrev pub decreases-loop-left : goal.decreases-loop-left
decreases-loop-left l = l.left
