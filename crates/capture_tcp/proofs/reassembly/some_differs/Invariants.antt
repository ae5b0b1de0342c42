use Rattle.std.proofs.Common.{◌≡◌, ◌+◌, length}
use Rattle.capture_tcp.specs.Cells.{all_of}
use Rattle.capture_tcp.specs.InnerReassembly.{differs, octets_of}
use Rattle.capture_tcp.proofs.reassembly.some_differs.Given as goal

abbrev pub invariant-loop-octet : goal.invariant-loop-octet
invariant-loop-octet l =
    (differs l.base l.acknowledged l.place (octets_of l.rest) (all_of l.cells) ≡ differs l.base l.acknowledged l.fn.place (octets_of l.octets) (all_of l.cells))
    × (l.place + length l.rest ≡ l.fn.place + length l.octets)

abbrev pub decreases-loop-octet : goal.decreases-loop-octet
decreases-loop-octet l = length l.rest
