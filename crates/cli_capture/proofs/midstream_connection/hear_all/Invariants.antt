use Rattle.std.proofs.Common.{map}
use Rattle.cli_capture.specs.declared.progress.Progress.TheVariants as progress
use Rattle.cli_capture.specs.InnerMidstreamLog.{HearsEach, IsQuiet}
use Rattle.cli_capture.specs.InnerReport.{Emits}
use Rattle.cli_capture.specs.MidstreamOutput.{in_capture}
use Rattle.cli_capture.proofs.midstream_connection.hear_all.Given as goal

-- so far some connections were told, nothing where this one hasn't come up, and what happens is heard
abbrev pub invariant-loop-happening : goal.invariant-loop-happening
invariant-loop-happening l = record {
  emitted : Emits l.initial.report l.report;
  quiet : IsQuiet l.initial.joined.is_up l.joined.is_up l.initial.report l.report;
  processes_input : HearsEach l.fn.pair (map (in_capture l.fn.bare_resets) l.yielded) l.initial.joined l.initial.report progress.Proceeds l.joined l.report;
}
