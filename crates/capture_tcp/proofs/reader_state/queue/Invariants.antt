use Rattle.std.proofs.Common.{◌≡◌, ◌++◌, map, length}
use Rattle.capture_tcp.specs.InnerPacketArrival.{due_as}
use Rattle.capture_tcp.proofs.reader_state.queue.Given as goal

abbrev pub invariant-loop-packet : goal.invariant-loop-packet
invariant-loop-packet l = l.due.items ++ map (due_as l.at l.from) l.rest ≡ l.fn.due.items ++ map (due_as l.at l.from) l.freed

abbrev pub decreases-loop-packet : goal.decreases-loop-packet
decreases-loop-packet l = length l.rest
