use Rattle.std.proofs.Common.{◌≡◌, drop, map}
use Rattle.cli_capture.specs.InnerTrackedConnection.{seen_waiting}
use Rattle.cli_capture.specs.ConnectionState.{first_shown}
use Rattle.cli_capture.proofs.tracked_connection.lost_at.Given as goal

-- none of those that were looked at shows it
abbrev pub invariant-loop-packet : goal.invariant-loop-packet
invariant-loop-packet l = first_shown (map seen_waiting l.waiting) ≡ first_shown (map seen_waiting (drop l.packet-index l.waiting))
