use Rattle.std.proofs.Common.{◌∙◌, ap}
use Rattle.std.specs.Map.{values_of}
use Rattle.hsms_machine.specs.OpeningOrder.{first_of}
use Rattle.hsms_machine.specs.InnerOpeningOrder.{open_at}
use Rattle.hsms_machine.proofs.KeptTransactions.{at-first}
use Rattle.hsms_machine.proofs.transaction_map.Queue.first.Goals as goal

pub returns-clause-first : goal.returns-clause-first
returns-clause-first c =
    let slots = values_of c.self.inside.slots.map.entries in
    c.open_at.ensures ∙ ap (open_at slots) c.self.invariant.starts ∙ at-first slots ∙ ap first_of c.self.view_is
