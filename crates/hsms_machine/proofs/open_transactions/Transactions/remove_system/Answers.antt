use Rattle.std.proofs.Common.{◌≡◌, ◌≤◌, ◌==◌, ◌∙◌, not, true, false, None, length, filter, option_to_list, ap, sym, subst, arith}
use Rattle.std.proofs.lemmas.Bool.{eqb-true}
use Rattle.hsms_machine.specs.InnerOpeningOrder.{uses}
use Rattle.hsms_machine.proofs.OtherEntries.{oldest_out, filter_oldest, filter_later, listed-filter, fewer}
use Rattle.hsms_machine.proofs.open_transactions.Transactions.remove_system.Goals as goal

pub invariant_of-self : goal.invariant_of-self
invariant_of-self c =
    let oldest = c.self.inside.oldest in
    let queue = c.self.inside.queue in
    let used : uses c.args.system (option_to_list oldest) ≡ true = sym c.has_system.ensures ∙ c.if-has_system.true in
    listed-filter (λ x. not (x.header.system == c.args.system)) oldest None queue queue c.self.invariant (filter_oldest (λ x. x.header.system == c.args.system) c.args.system (λ x is. eqb-true x.header.system c.args.system is) oldest None queue c.self.invariant.apart used (oldest_out c.args.system oldest used)) (omega arith)

pub returns-then-has_system : goal.returns-then-has_system
returns-then-has_system c =
    let oldest = c.self.inside.oldest in
    let used : uses c.args.system (option_to_list oldest) ≡ true = sym c.has_system.ensures ∙ c.if-has_system.true in
    filter_oldest (λ x. x.header.system == c.args.system) c.args.system (λ x is. eqb-true x.header.system c.args.system is) oldest None c.self.inside.queue c.self.invariant.apart used (oldest_out c.args.system oldest used)
    ∙ ap (filter (λ x. not (x.header.system == c.args.system))) c.self.view_is

pub invariant_of-self-else-has_system : goal.invariant_of-self-else-has_system
invariant_of-self-else-has_system c =
    let oldest = c.self.inside.oldest in
    let queue = c.self.inside.queue in
    let left = c.remove_system.new.self in
    let unused : uses c.args.system (option_to_list oldest) ≡ false = sym c.has_system.ensures ∙ c.if-has_system.false in
    let few : length left ≤ length queue = subst (λ l. length l ≤ length queue) (sym c.remove_system.ensures) (fewer (λ x. not (x.header.system == c.args.system)) queue) in
    listed-filter (λ x. not (x.header.system == c.args.system)) oldest oldest queue left c.self.invariant (filter_later (λ x. x.header.system == c.args.system) c.args.system (λ x is. eqb-true x.header.system c.args.system is) oldest queue left unused c.remove_system.ensures) few

pub returns-else-has_system : goal.returns-else-has_system
returns-else-has_system c =
    let oldest = c.self.inside.oldest in
    let unused : uses c.args.system (option_to_list oldest) ≡ false = sym c.has_system.ensures ∙ c.if-has_system.false in
    filter_later (λ x. x.header.system == c.args.system) c.args.system (λ x is. eqb-true x.header.system c.args.system is) oldest c.self.inside.queue c.remove_system.new.self unused c.remove_system.ensures
    ∙ ap (filter (λ x. not (x.header.system == c.args.system))) c.self.view_is
