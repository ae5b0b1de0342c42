use Rattle.std.proofs.Common.{◌≡◌, ◌-◌, ◌∙◌, ap, sym, nat_lt}
use Rattle.std.specs.List.{list_any}
use Rattle.hsms_machine.specs.Transaction.{passes}
use Rattle.hsms_machine.proofs.Mapped.{any_first, overdue_falls}
use Rattle.hsms_machine.proofs.open_transactions.Transactions.has_overdue.Goals as goal

pub returns-in-Some : goal.returns-in-Some
returns-in-Some c =
    let named_rule : nat_lt c.args.limit (c.args.now - c.in-Some.opened.time) ≡ list_any (λ opened. nat_lt c.args.limit (c.args.now - opened.time)) c.args.self.now =
    ap (passes (λ opened. nat_lt c.args.limit (c.args.now - opened.time))) c.in-Some.ensures.first
    ∙ sym (any_first (λ time. nat_lt c.args.limit (c.args.now - time)) (overdue_falls c.args.now c.args.limit) c.args.self.now c.in-Some.ensures.in_order) in
    cc
