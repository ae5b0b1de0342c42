use Rattle.std.proofs.Common.{drop, ◌-◌}
use Rattle.capture_tcp.specs.Cells.{all_of}
use Rattle.capture_tcp.proofs.StreamChunks.{Proceeds}
use Rattle.capture_tcp.proofs.reassembly.piece_of.Given as goal

abbrev pub invariant-loop-index : goal.invariant-loop-index
invariant-loop-index l = Proceeds (drop l.first (all_of l.cells)) l.count l.octets.items l.index

abbrev pub decreases-loop-index : goal.decreases-loop-index
decreases-loop-index l = l.count - l.index
