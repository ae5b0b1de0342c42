use Rattle.std.proofs.Common.{◌≡◌, ◌++◌, ◌∷◌, [], ◌^◌, ◌+◌, ◌∙◌, ap, nat_eq, None, length, length-append, swap, arith, ℕ, Option}
use Rattle.std.specs.Map.{lookup}
use Rattle.indexmap.proofs.CallerLemmas.{insert_entry-new}
use Rattle.hsms_machine.specs.declared.open_transactions.Transaction.{Transaction}
use Rattle.hsms_machine.proofs.KeptTransactions.{lookup-spare, swap-last}
use Rattle.hsms_machine.proofs.transaction_map.Slots.move_last.Goals as goal

pub swap_indices-requires-clause-b_in_bounds : goal.swap_indices-requires-clause-b_in_bounds
swap_indices-requires-clause-b_in_bounds c =
    let map = c.args.map.now in
    let key : ℕ = 2 ^ 32 + c.len-last.result in
    let none : lookup (nat_eq key) map.entries ≡ None = lookup-spare (2 ^ 32 + length map.entries) key map.entries c.requires.below (omega (arith, c.len-last.ensures.len)) in
    let is = c.in-Ok.ensures.entries ∙ insert_entry-new nat_eq map key None none in
    let size : length c.insert.new.self.entries ≡ length map.entries + 1 = ap length is ∙ length-append map.entries ((key, None) ∷ []) in
    omega (arith, size, c.len-last.ensures.len)

pub returns-in-Ok-clause-ok : goal.returns-in-Ok-clause-ok
returns-in-Ok-clause-ok c slot at =
    let map = c.args.map.now in
    let last = c.len-last.result in
    let key : ℕ = 2 ^ 32 + last in
    let none : lookup (nat_eq key) map.entries ≡ None = lookup-spare (2 ^ 32 + length map.entries) key map.entries c.requires.below (omega (arith, c.len-last.ensures.len)) in
    let is = c.in-Ok.ensures.entries ∙ insert_entry-new nat_eq map key None none in
    let spare : ℕ × Option Transaction = (2 ^ 32 + length map.entries, None) in
    let last_is : last ≡ length map.entries = c.len-last.ensures.len in
    let at_end = ap (λ n. map.entries ++ (2 ^ 32 + n, None) ∷ []) last_is in
    c.swap_indices.ensures.entries ∙ ap (λ l. swap l c.args.index last) (is ∙ at_end)
    ∙ ap (swap (map.entries ++ spare ∷ []) c.args.index) last_is ∙ swap-last map.entries c.args.index spare slot at c.requires.within
