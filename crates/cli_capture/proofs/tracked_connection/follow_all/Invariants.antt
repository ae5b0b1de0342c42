use Rattle.std.proofs.Common.{◌≡◌, ◌++◌, ℕ, List, map}
use Rattle.capture_tcp.specs.TcpStreams.{End, Seen}
use Rattle.capture_tcp.specs.Laws.{AreNumbered}
use Rattle.cli_capture.specs.declared.report.OutputMode.TheVariants.{Verdicts}
use Rattle.cli_capture.specs.InnerTrackedConnection.{FollowsThem, IsFollowed, seen_waiting}
use Rattle.cli_capture.specs.InnerReport.{Emits}
use Rattle.cli_capture.proofs.Staging.{SoFarOnPage}
use Rattle.cli_capture.proofs.tracked_connection.follow_all.Given as goal

-- so far some connections were told, and of this one what those packets tell that were taken
abbrev pub invariant-loop-packet : goal.invariant-loop-packet
invariant-loop-packet l = record {
  emitted : Emits l.initial.report l.report;
  follows : l.initial.report.manner ≡ Verdicts → (base : End → ℕ) (before : List Seen) → AreNumbered 0 (before ++ map seen_waiting l.fn.waiting.items)
      → IsFollowed l.initial.report.active l.initial.report.passive base before l.fn.«open»
      → FollowsThem l.initial.report.active l.initial.report.passive l.fn.pair base before (map seen_waiting l.yielded) l.left l.initial.report l.report;
  logged : SoFarOnPage l.fn.pair l.fn.waiting.items l.fn.«open» l.initial.report l.yielded l.left l.report;
}
