use Rattle.std.proofs.Common.{◌≡◌, ◌++◌}
use Rattle.capture_tcp.specs.Losses.{past_of}
use Rattle.capture_tcp.proofs.losses.past_packet.Given as goal

-- None of the checked needs has missing data that it acknowledges.
abbrev pub invariant-loop-need : goal.invariant-loop-need
invariant-loop-need l = past_of l.ends l.needs.items ≡ past_of l.ends (l.need-iterator.head.now ++ l.need-iterator.wrapped.now)
