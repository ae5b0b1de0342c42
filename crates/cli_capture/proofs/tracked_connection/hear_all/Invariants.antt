use Rattle.std.proofs.Common.{◌≡◌, List, length}
use Rattle.capture_tcp.specs.declared.events.TimedEvent.{TimedEvent}
use Rattle.cli_capture.specs.declared.report.OutputMode.TheVariants.{Verdicts}
use Rattle.cli_capture.specs.InnerTrackedConnection.{EndsHave}
use Rattle.cli_capture.specs.InnerReport.{Emits}
use Rattle.cli_capture.proofs.Following.{Hearing}
use Rattle.cli_capture.proofs.Paging.{LogsSoFar}
use Rattle.cli_capture.proofs.tracked_connection.hear_all.Given as goal

-- so far some connections were told, and none where verdicts are; and both logs have what was heard
abbrev pub invariant-loop-happening : goal.invariant-loop-happening
invariant-loop-happening l = record {
  emitted : Emits l.initial.report l.report;
  same : l.initial.report.manner ≡ Verdicts → l.report ≡ l.initial.report;
  reception : l.initial.report.manner ≡ Verdicts → (hs : List TimedEvent) → EndsHave l.initial.report.active l.initial.report.passive hs l.initial.logs.ends
      → Hearing l.initial.report.active l.initial.report.passive hs l.initial.logs l.fn.emitted.items (length l.yielded) l.logs;
  logged : LogsSoFar l.fn.pair l.initial.logs l.initial.report l.yielded l.logs l.report;
}
