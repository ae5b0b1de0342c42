use Rattle.std.proofs.Common.{◌∙◌, ap}
use Rattle.hsms_machine.specs.OpeningOrder.{first_of}
use Rattle.hsms_machine.proofs.open_transactions.Transactions.first.Goals as goal

pub returns-in-Some-clause-first : goal.returns-in-Some-clause-first
returns-in-Some-clause-first c = ap first_of (rw c.in-Some.is at c.self.view_is)

pub returns-in-None-clause-first : goal.returns-in-None-clause-first
returns-in-None-clause-first c = c.first.ensures.first ∙ ap first_of (rw c.in-None.is at c.self.view_is)
