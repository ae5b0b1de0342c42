use Rattle.std.proofs.Common.{arith}
use Rattle.capture_unjudged.proofs.Recursions.{lower_first, lower_last}
use Rattle.capture_unjudged.proofs.numbers.+lower.Goals as goal

pub returns-then-first-number-clause-count : goal.returns-then-first-number-clause-count
returns-then-first-number-clause-count t c =
    lower_first c.args.number c.in-Some.first.now c.lower.result c.args.numbers.now c.in-Some.rest.now c.in-Some.ensures.cases.0
    (omega (arith, c.if-first-number.true)) c.lower.ensures.count

pub returns-clause-count : goal.returns-clause-count
returns-clause-count t c =
    lower_last c.args.number c.in-Some.first.now c.args.numbers.now c.in-Some.rest.now c.in-Some.ensures.cases.0
    (omega (arith, c.if-first-number.false))
