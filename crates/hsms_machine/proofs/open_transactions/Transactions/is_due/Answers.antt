use Rattle.std.proofs.Common.{◌≡◌, ◌-◌, ◌==◌, ◌&&◌, ◌∙◌, ap, sym, nat_le}
use Rattle.std.specs.List.{list_any}
use Rattle.hsms_machine.specs.Transaction.{passes}
use Rattle.hsms_machine.proofs.Mapped.{any_at, passes_found, due_only}
use Rattle.hsms_machine.proofs.open_transactions.Transactions.is_due.Goals as goal

pub returns-in-Some : goal.returns-in-Some
returns-in-Some c =
    let named_rule : nat_le c.args.limit (c.args.now - c.in-Some.opened.time) ≡ list_any (λ opened. (opened.header.system == c.args.system) && nat_le c.args.limit (c.args.now - opened.time)) c.args.self.now =
    ap (passes (λ opened. nat_le c.args.limit (c.args.now - opened.time))) c.in-Some.ensures.found
    ∙ sym (passes_found (λ opened. nat_le c.args.limit (c.args.now - opened.time)) c.args.system c.args.self.now)
    ∙ sym (any_at (λ opened. (opened.header.system == c.args.system) && nat_le c.args.limit (c.args.now - opened.time)) c.args.system (due_only c.args.system c.args.now c.args.limit) c.args.self.now c.in-Some.ensures.apart) in
    cc

pub returns-in-None : goal.returns-in-None
returns-in-None c =
    ap (passes (λ opened. nat_le c.args.limit (c.args.now - opened.time))) c.in-None.ensures.found
    ∙ sym (passes_found (λ opened. nat_le c.args.limit (c.args.now - opened.time)) c.args.system c.args.self.now)
    ∙ sym (any_at (λ opened. (opened.header.system == c.args.system) && nat_le c.args.limit (c.args.now - opened.time)) c.args.system (due_only c.args.system c.args.now c.args.limit) c.args.self.now c.in-None.ensures.apart)
