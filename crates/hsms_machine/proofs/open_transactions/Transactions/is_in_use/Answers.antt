use Rattle.std.proofs.Common.{◌∙◌, ◌==◌, ap, is_some}
use Rattle.hsms_machine.proofs.Mapped.{find-some}
use Rattle.hsms_machine.proofs.open_transactions.Transactions.is_in_use.Goals as goal

pub returns : goal.returns
returns c =
    c.is_some.ensures ∙ ap is_some c.get.ensures.found ∙ find-some (λ opened. opened.header.system == c.args.system) c.args.self.now
