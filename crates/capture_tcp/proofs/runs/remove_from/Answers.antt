use Rattle.std.proofs.Common.{◌+◌, ◌-◌, arith}
use Rattle.capture_tcp.proofs.ApartRuns.{removes_next}
use Rattle.capture_tcp.proofs.runs.remove_from.Goals as goal

pub loop-left-preserved : goal.loop-left-preserved
loop-left-preserved c = (
  removes_next c.args.index (c.args.index + (c.args.count - c.loop-left.left)) (c.args.index + (c.args.count - (c.loop-left.left - 1))) c.args.runs.now.items c.loop-left.runs.items
      c.remove.new.self.items c.loop-left.invariant.0 (omega (arith, c.requires, c.args.runs.now.ok.0)) c.in-Some.ensures.items (omega (arith, c.loop-left-test.true, c.loop-left.invariant.1)),
  omega (arith, c.loop-left.invariant.1),
  omega (arith, c.loop-left.invariant.2, c.in-Some.ensures.len, c.loop-left-test.true),
)
