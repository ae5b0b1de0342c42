use Rattle.std.proofs.Common.{◌≡◌, ◌++◌, length}
use Rattle.capture_tcp.specs.InnerReassembly.{octets_of}
use Rattle.capture_tcp.proofs.reassembly.append_octets.Given as goal

abbrev pub invariant-loop-octet : goal.invariant-loop-octet
invariant-loop-octet l = l.cells.items ++ octets_of l.rest ≡ l.fn.cells.items ++ octets_of l.octets

abbrev pub decreases-loop-octet : goal.decreases-loop-octet
decreases-loop-octet l = length l.rest
