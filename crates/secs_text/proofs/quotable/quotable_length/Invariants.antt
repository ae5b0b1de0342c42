use Rattle.std.proofs.Common.{◌≡◌, ◌+◌, ◌-◌, ◌≤◌, length, drop}
use Rattle.std.specs.List.{prefix_len}
use Rattle.secs_text.specs.Octets.{is_quotable}
use Rattle.secs_text.proofs.quotable.quotable_length.Given as goal

abbrev pub invariant-loop-i : goal.invariant-loop-i
invariant-loop-i l = (prefix_len is_quotable l.octets ≡ l.i + prefix_len is_quotable (drop l.i l.octets)) × (l.i ≤ length l.octets)

abbrev pub decreases-loop-i : goal.decreases-loop-i
decreases-loop-i l = length l.octets - l.i

abbrev pub invariant-loop-i-2 : goal.invariant-loop-i-2
invariant-loop-i-2 l = (prefix_len is_quotable l.octets ≡ l.i + prefix_len is_quotable (drop l.i l.octets)) × (l.i ≤ length l.octets)

abbrev pub decreases-loop-i-2 : goal.decreases-loop-i-2
decreases-loop-i-2 l = length l.octets - l.i
