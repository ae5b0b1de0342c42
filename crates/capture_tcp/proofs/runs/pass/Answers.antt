use Rattle.std.proofs.Common.{refl, arith}
use Rattle.capture_tcp.proofs.ApartRuns.{keeps_next}
use Rattle.capture_tcp.proofs.runs.pass.Goals as goal

pub loop-run-preserved-else-not-ends_by : goal.loop-run-preserved-else-not-ends_by
loop-run-preserved-else-not-ends_by c =
    keeps_next c.args.first c.args.runs.now.items c.loop-run.runs.items c.pop_front.new.self.items c.in-Some.run'.now c.loop-run.invariant
    (let lt = c.in-Some.ensures.variant.0 refl in omega (arith, lt, c.loop-run.runs.ok.0)) c.in-Some.ensures.lookup (c.if-not-ends_by.ensures.ends refl) c.pop_front.ensures.rest
