use Rattle.std.proofs.Common.{◌≡◌, drop, map}
use Rattle.capture_events.specs.ConnectionItems.{first_shown}
use Rattle.capture_events.specs.LoggedEvents.{seen_waiting}
use Rattle.capture_events.proofs.connection_state.lost_by.Given as goal

-- No packet so far shows the loss.
abbrev pub invariant-loop-packet : goal.invariant-loop-packet
invariant-loop-packet l = first_shown (map seen_waiting l.waiting) ≡ first_shown (map seen_waiting (drop l.packet-index l.waiting))
