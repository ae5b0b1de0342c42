use Rattle.std.proofs.Common.{sym, ◌∙◌}
use Rattle.capture_events.proofs.tracked_connection.follow.Goals as goal

pub returns-in-Some : goal.returns-in-Some
returns-in-Some c =
    (c.in-Ok.connection, c.in-Some.ending, sym c.ending.ensures ∙ c.in-Some.is, c.shortfall_of.ensures, c.in-Ok.ensures.emitted, c.in-Ok.ensures.times, c.in-Ok.ensures.proceeds)
