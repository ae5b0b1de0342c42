use Rattle.std.proofs.Common.{is_some, ap, arith}
use Rattle.capture_midstream.proofs.Unbroken.{unbroken_ends, unbroken_more, unbroken_stops}
use Rattle.capture_midstream.proofs.sync_search.unbroken.Goals as goal

pub returns-in_default-clause-value : goal.returns-in_default-clause-value
returns-in_default-clause-value c =
    unbroken_stops c.args.held.now c.args.low c.loop-place.place c.cell.result c.octet_in.result c.requires.held (omega (arith, c.loop-place-test.true))
    c.cell.ensures c.octet_in.ensures (ap is_some c.in_default.is) c.loop-place.invariant.2

pub loop-place-preserved : goal.loop-place-preserved
loop-place-preserved c = (
  omega (arith, c.loop-place-test.true),
  omega (arith, c.loop-place.invariant.1),
  unbroken_more c.args.held.now c.args.low c.loop-place.place c.cell.result c.octet_in.result c.requires.held (omega (arith, c.loop-place-test.true))
      c.cell.ensures c.octet_in.ensures (ap is_some c.in-Some.is) c.loop-place.invariant.2,
)

pub returns-clause-value : goal.returns-clause-value
returns-clause-value c =
    unbroken_ends c.args.held.now c.args.low c.loop-place.place (omega (arith, c.loop-place-test.false)) c.loop-place.invariant.2
