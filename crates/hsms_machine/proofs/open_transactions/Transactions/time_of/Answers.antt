use Rattle.std.proofs.Common.{◌≡◌, ◌∙◌, ◌==◌, ap, sym, is_some, Some, None}
use Rattle.std.specs.List.{find}
use Rattle.hsms_machine.specs.declared.open_transactions.Transaction.{Transaction}
use Rattle.hsms_machine.proofs.Mapped.{found_any, find-some}
use Rattle.hsms_machine.proofs.open_transactions.Transactions.time_of.Goals as goal

pub returns-clause-time : goal.returns-clause-time
returns-clause-time c =
    let found : find (λ (opened : Transaction). opened.header.system == c.args.message.system) c.args.self.now ≡ Some c.in_ok-opened.opened = sym (rw c.header.ensures at c.in_ok-opened.ensures.found) in
    found_any (λ opened. opened.header.system == c.args.message.system) c.in_ok-opened.opened c.args.self.now found

pub returns-in_err-opened-clause-none : goal.returns-in_err-opened-clause-none
returns-in_err-opened-clause-none c =
    let found : find (λ (opened : Transaction). opened.header.system == c.args.message.system) c.args.self.now ≡ None = sym (rw c.header.ensures at c.in_err-opened.ensures.found) in
    rw c.from_residual.ensures (sym (find-some (λ opened. opened.header.system == c.args.message.system) c.args.self.now) ∙ ap is_some found)
