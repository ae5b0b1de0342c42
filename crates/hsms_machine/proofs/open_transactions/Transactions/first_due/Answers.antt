use Rattle.std.proofs.Common.{◌∙◌, ap, sym}
use Rattle.hsms_machine.proofs.Mapped.{due_of, due_first}
use Rattle.hsms_machine.proofs.open_transactions.Transactions.first_due.Goals as goal

pub returns : goal.returns
returns c =
    c.due_at.ensures ∙ ap (due_of c.args.limit) c.in_ok-opened.ensures.first ∙ sym (due_first c.args.limit c.args.self.now c.in_ok-opened.ensures.in_order)
