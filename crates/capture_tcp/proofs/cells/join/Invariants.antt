use Rattle.std.proofs.Common.{length}
use Rattle.capture_tcp.specs.InnerCells.{Joins}
use Rattle.capture_tcp.proofs.cells.join.Given as goal

abbrev pub invariant-loop-octet : goal.invariant-loop-octet
invariant-loop-octet l = Joins l.fn.octets.items l.fn.cells l.octets.items l.cells

abbrev pub decreases-loop-octet : goal.decreases-loop-octet
decreases-loop-octet l = length l.cells
