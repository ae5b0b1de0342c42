use Rattle.std.proofs.Common.{inl, sym, ◌∙◌}
use Rattle.cli_capture.proofs.tracked_connection.take_segment.Goals as goal

pub returns-in-Some-clause-takes : goal.returns-in-Some-clause-takes
returns-in-Some-clause-takes c =
    inl
    (c.in-Ok.connection, c.in-Some.ending, sym c.ending.ensures ∙ c.in-Some.is, c.lack_behind.ensures, c.in-Ok.ensures.emitted, c.in-Ok.ensures.times)
