use Rattle.std.proofs.Common.{ap}
use Rattle.cli_capture.specs.declared.midstream_log.Joined.{Joined}
use Rattle.cli_capture.proofs.Sessions.{left_more}
use Rattle.cli_capture.proofs.Tellings.{tells_then}
use Rattle.cli_capture.proofs.midstream_log.Joined.tell_left_out.Goals as goal

pub loop-packet-preserved : goal.loop-packet-preserved
loop-packet-preserved c =
    let inv = c.loop-packet.invariant in
    let one = c.in_ok-leave_out.ensures in
    record {
      emitted = tells_then c.args.report.now c.loop-packet.report c.leave_out.new.self inv.emitted one.emitted;
      items = λ pair. left_more pair c.loop-packet.yielded c.in-Some.packet c.args.self.now.ends c.loop-packet.self.ends c.leave_out.new.ends c.args.report.now
          c.loop-packet.report c.leave_out.new.self (inv.items pair) (one.logged pair);
      same = ap (λ (j : Joined). (let k : Joined = record j { ends = c.leave_out.new.ends } in k)) inv.same;
      none = inv.none;
    }
