use Rattle.std.proofs.Common.{◌≡◌}
use Rattle.std.specs.VecDeque.{deque_len}
use Rattle.capture_tcp.specs.InnerLosses.{unsettled}
use Rattle.capture_tcp.proofs.losses.settle.Given as goal

abbrev pub invariant-loop : goal.invariant-loop
invariant-loop l = unsettled l.ends l.needs.items ≡ unsettled l.ends l.fn.needs.items

abbrev pub decreases-loop : goal.decreases-loop
decreases-loop l = deque_len l.needs
