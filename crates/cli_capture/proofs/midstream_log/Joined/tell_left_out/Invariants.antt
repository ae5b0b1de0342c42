use Rattle.std.proofs.Common.{◌≡◌, [], map}
use Rattle.capture_log.specs.declared.socket_pair.Pair.{Pair}
use Rattle.cli_capture.specs.declared.progress.Progress.TheVariants as progress
use Rattle.cli_capture.specs.MidstreamItems.{leaves_out}
use Rattle.cli_capture.specs.InnerMidstreamItems.{TakesItems}
use Rattle.cli_capture.specs.InnerReport.{Emits}
use Rattle.cli_capture.proofs.midstream_log.Joined.tell_left_out.Given as goal

-- so far some connections were told, and these packets
abbrev pub invariant-loop-packet : goal.invariant-loop-packet
invariant-loop-packet l = record {
  emitted : Emits l.initial.report l.report;
  items : (pair : Pair) → TakesItems pair progress.Proceeds (map leaves_out l.yielded) l.initial.self.ends l.initial.report l.self.ends l.report;
  same : l.self ≡ record l.initial.self { ends = l.self.ends; left_out = l.self.left_out };
  none : l.self.left_out.items ≡ [];
}
