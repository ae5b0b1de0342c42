use Rattle.std.proofs.Common.{◌≡◌, ◌≤◌, ◌∙◌, ◌++◌, [], not, true, false, length, filter, option_to_list, ap, sym, subst, arith}
use Rattle.hsms_machine.specs.InnerOpeningOrder.{uses}
use Rattle.hsms_machine.specs.Transaction.{concludes}
use Rattle.hsms_machine.proofs.Mapped.{concludes_only}
use Rattle.hsms_machine.proofs.OtherEntries.{nothing_queued, filter_oldest, filter_later, listed-filter, fewer}
use Rattle.hsms_machine.proofs.open_transactions.Transactions.remove_concluded.Goals as goal

pub invariant_of-self : goal.invariant_of-self
invariant_of-self c =
    let oldest = c.self.inside.oldest in
    let queue = c.self.inside.queue in
    let used : uses c.args.other.system (option_to_list oldest) ≡ true = rw c.header.ensures at (sym c.has_system.ensures ∙ c.if-has_system.true) in
    listed-filter (λ x. not (concludes x.header c.args.other)) oldest c.unconcluded-self-inside.result queue queue c.self.invariant (filter_oldest (λ x. concludes x.header c.args.other) c.args.other.system (concludes_only c.args.other) oldest c.unconcluded-self-inside.result queue c.self.invariant.apart used c.unconcluded-self-inside.ensures) (omega arith)

pub returns-then-has_system : goal.returns-then-has_system
returns-then-has_system c =
    let oldest = c.self.inside.oldest in
    let used : uses c.args.other.system (option_to_list oldest) ≡ true = rw c.header.ensures at (sym c.has_system.ensures ∙ c.if-has_system.true) in
    filter_oldest (λ x. concludes x.header c.args.other) c.args.other.system (concludes_only c.args.other) oldest c.unconcluded-self-inside.result c.self.inside.queue c.self.invariant.apart used c.unconcluded-self-inside.ensures
    ∙ ap (filter (λ x. not (concludes x.header c.args.other))) c.self.view_is

pub invariant_of-self-then-len-gt0 : goal.invariant_of-self-then-len-gt0
invariant_of-self-then-len-gt0 c =
    let oldest = c.self.inside.oldest in
    let queue = c.self.inside.queue in
    let left = c.remove_concluded.new.self in
    let unused : uses c.args.other.system (option_to_list oldest) ≡ false = rw c.header.ensures at (sym c.has_system.ensures ∙ c.if-has_system.false) in
    let few : length left ≤ length queue = subst (λ l. length l ≤ length queue) (sym c.remove_concluded.ensures) (fewer (λ x. not (concludes x.header c.args.other)) queue) in
    listed-filter (λ x. not (concludes x.header c.args.other)) oldest oldest queue left c.self.invariant (filter_later (λ x. concludes x.header c.args.other) c.args.other.system (concludes_only c.args.other) oldest queue left unused c.remove_concluded.ensures) few

pub returns-then-len-gt0 : goal.returns-then-len-gt0
returns-then-len-gt0 c =
    let oldest = c.self.inside.oldest in
    let unused : uses c.args.other.system (option_to_list oldest) ≡ false = rw c.header.ensures at (sym c.has_system.ensures ∙ c.if-has_system.false) in
    filter_later (λ x. concludes x.header c.args.other) c.args.other.system (concludes_only c.args.other) oldest c.self.inside.queue c.remove_concluded.new.self unused c.remove_concluded.ensures
    ∙ ap (filter (λ x. not (concludes x.header c.args.other))) c.self.view_is

pub returns-else-len-gt0 : goal.returns-else-len-gt0
returns-else-len-gt0 c =
    let oldest = c.self.inside.oldest in
    let queue = c.self.inside.queue in
    let unused : uses c.args.other.system (option_to_list oldest) ≡ false = rw c.header.ensures at (sym c.has_system.ensures ∙ c.if-has_system.false) in
    let none : queue ≡ [] = nothing_queued queue (omega (arith, c.len.ensures.value, c.if-len-gt0.false)) in
    let kept : option_to_list oldest ++ queue ≡ filter (λ x. not (concludes x.header c.args.other)) (option_to_list oldest ++ queue) =
    filter_later (λ x. concludes x.header c.args.other) c.args.other.system (concludes_only c.args.other) oldest queue queue unused (none ∙ ap (filter (λ x. not (concludes x.header c.args.other))) (sym none)) in
    let view = c.self.view_is in
    cc
