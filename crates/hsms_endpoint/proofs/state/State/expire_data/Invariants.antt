use Rattle.std.proofs.Common.{length}
use Rattle.hsms_endpoint.specs.InnerExpiring.{HasExpired}
use Rattle.hsms_endpoint.proofs.state.State.expire_data.Given as goal

abbrev pub invariant-oldest : goal.invariant-oldest
invariant-oldest l = HasExpired l.fn.self l.fn.entries.items l.self l.entries.items l.expired.items

abbrev pub decreases-oldest : goal.decreases-oldest
decreases-oldest l = length l.self.tracker.sent_data
