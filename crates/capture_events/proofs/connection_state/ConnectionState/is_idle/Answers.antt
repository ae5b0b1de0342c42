use Rattle.std.proofs.Common.{sym}
use Rattle.capture_events.proofs.ConnectionStates.{tracked_not_idle}
use Rattle.capture_events.proofs.connection_state.ConnectionState.is_idle.Goals as goal

pub returns-in-Tracked : goal.returns-in-Tracked
returns-in-Tracked c = λ most number seen numbered consistent. sym (tracked_not_idle most number seen c.args.self.now c.in-Tracked.field-0 c.in-Tracked.is numbered consistent)
