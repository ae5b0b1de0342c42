use Rattle.std.proofs.Common.{◌==◌, ◌∙◌, ap, sym}
use Rattle.std.specs.List.{find}
use Rattle.hsms_machine.proofs.OtherEntries.{found_oldest, found_later}
use Rattle.hsms_machine.proofs.open_transactions.Transactions.get.Goals as goal

pub returns-then-has_system-clause-found : goal.returns-then-has_system-clause-found
returns-then-has_system-clause-found c =
    found_oldest c.args.system c.self.inside.oldest c.self.inside.queue (sym c.has_system.ensures ∙ c.if-has_system.true)
    ∙ ap (find (λ opened. opened.header.system == c.args.system)) c.self.view_is

pub returns-else-has_system-clause-found : goal.returns-else-has_system-clause-found
returns-else-has_system-clause-found c =
    c.get.ensures.found
    ∙ found_later c.args.system c.self.inside.oldest c.self.inside.queue (sym c.has_system.ensures ∙ c.if-has_system.false)
    ∙ ap (find (λ opened. opened.header.system == c.args.system)) c.self.view_is
