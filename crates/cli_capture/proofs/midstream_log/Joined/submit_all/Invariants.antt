use Rattle.std.proofs.Common.{◌≡◌}
use Rattle.cli_capture.specs.declared.progress.Progress.TheVariants as progress
use Rattle.cli_capture.specs.InnerMidstreamLog.{IsQuiet, TellsThem}
use Rattle.cli_capture.specs.InnerReport.{Emits}
use Rattle.cli_capture.proofs.midstream_log.Joined.submit_all.Given as goal

-- so far some connections were told, and nothing where this one hasn't come up; and what happens is told
abbrev pub invariant-loop-happening : goal.invariant-loop-happening
invariant-loop-happening l = record {
  emitted : Emits l.initial.report l.report;
  quiet : IsQuiet l.initial.self.is_up l.self.is_up l.initial.report l.report;
  emits : TellsThem l.fn.pair l.yielded l.initial.self l.initial.report progress.Proceeds l.self l.report;
  same : l.self.is_decided ≡ l.initial.self.is_decided;
}
