use Rattle.std.proofs.Common.{arith}
use Rattle.hsms_log.proofs.ranges.parts_are_in_range.Goals as goal

pub returns-clause-text : goal.returns-clause-text
returns-clause-text c = λ i. omega (arith, c.type_inv.text i)
