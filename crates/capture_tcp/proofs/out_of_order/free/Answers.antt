use Rattle.std.proofs.Common.{arith}
use Rattle.capture_tcp.proofs.Draining.{keeps}
use Rattle.capture_tcp.proofs.out_of_order.free.Goals as goal

pub loop-packet-preserved : goal.loop-packet-preserved
loop-packet-preserved c =
    let q = c.in-Some.packet in
    let kept = keeps c.args.end c.args.acknowledged c.args.queue.now.items c.args.emitted.now.items c.loop-packet.end c.loop-packet.acknowledged c.loop-packet.queue.items c.loop-packet.emitted.items q
    c.take_reached.new.queue.items c.push.new.self.items c.loop-packet.invariant.1 c.in-Some.ensures.some.0 c.in-Some.ensures.some.1 c.in_ok-push.ensures.items in
    (omega (arith, c.in_ok-push.ensures.len, c.in-Some.ensures.len, c.in_ok-push.ensures.capacity, c.loop-packet.invariant.0), rw (c.max-end.ensures, c.max-acknowledged.ensures, c.unwrap_or.ensures) kept)
