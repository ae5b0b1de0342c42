-- How what is told of a connection goes on, and how it ends.
use Rattle.std.specs.Prelude.{ℕ, Option, None, Some}
use Rattle.capture_tcp.specs.declared.ending.Ending.{Ending}
use Rattle.capture_tcp.specs.declared.ending.Ending.TheVariants as ending
use Rattle.capture_log.specs.declared.both_logs.LogResult.{LogResult}
use Rattle.capture_log.specs.declared.both_logs.LogResult.TheVariants as reception
use Rattle.cli_capture.specs.declared.progress.Progress.{Progress}
use Rattle.cli_capture.specs.declared.progress.Progress.TheVariants.{Proceeds, Over}
use Rattle.capture_errors.specs.declared.incomplete.Shortfall.{Shortfall}
use Rattle.capture_errors.specs.declared.incomplete.Shortfall.TheVariants.{Lost, Differs, Length}

-- behind what was heard of a packet: nothing is told behind `down`, nor behind a message of no length that an end takes
abbrev pub course_behind : LogResult → ℕ → Progress
course_behind reception.Proceeds packet = Proceeds
course_behind reception.Down packet = Over None
course_behind reception.Length packet = Over (Some (Length packet))

-- what a connection lacks by how what is told of it ends, where something may be missing behind it: nothing that follows
-- says more of one that is over
abbrev pub lack_behind : Ending → Option Shortfall → Option Shortfall
lack_behind ending.Closed missing = None
lack_behind ending.Complete missing = missing
lack_behind (ending.Lost packet) missing = Some (Lost packet)
lack_behind (ending.Differs packet) missing = Some (Differs packet)
