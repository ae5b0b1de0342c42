use Rattle.std.proofs.Common.{◌≡◌, ◌≤◌, ◌<◌, ◌+◌, ◌∙◌, Option, List, ℕ, sym, is_some, true, false, length, arith, None, Some}
use Rattle.std.specs.Map.{values_of}
use Rattle.std.proofs.lemmas.Map.Entries.{length-values_of}
use Rattle.hsms_machine.specs.declared.open_transactions.Transaction.{Transaction}
use Rattle.hsms_machine.specs.InnerOpeningOrder.{open_at, first_open}
use Rattle.hsms_machine.proofs.KeptTransactions.{first-within, first-here, first-later}
use Rattle.hsms_machine.proofs.transaction_map.Slots.next_open.Goals as goal

here : (slots : List (Option Transaction)) (i : ℕ) (o : Option Transaction) → o ≡ open_at slots i → is_some o ≡ true → i ≤ first_open slots → i ≡ first_open slots
here slots i None is some le = absurd (let d : false ≡ true = some in cc)
here slots i (Some opened) is some le = first-here slots i opened le (sym is)

later : (slots : List (Option Transaction)) (i : ℕ) (o : Option Transaction) → o ≡ open_at slots i → is_some o ≡ false → i < length slots → i ≤ first_open slots → i + 1 ≤ first_open slots
later slots i None is none lt le = first-later slots i le (sym is) lt
later slots i (Some opened) is none lt le = absurd (let d : true ≡ false = none in cc)

pub returns-then-is_some : goal.returns-then-is_some
returns-then-is_some c =
    here (values_of c.args.map.now.entries) c.loop-index.index c.open_at.result c.open_at.ensures (sym c.is_some.ensures ∙ c.if-is_some.true) c.loop-index.invariant

pub loop-index-preserved : goal.loop-index-preserved
loop-index-preserved c =
    let es = c.args.map.now.entries in
    let size = length-values_of es in
    let lt : c.loop-index.index < length (values_of es) = omega (arith, size, c.len-index-end.ensures.len, c.loop-index-test.true) in
    later (values_of es) c.loop-index.index c.open_at.result c.open_at.ensures (sym c.is_some.ensures ∙ c.if-is_some.false) lt c.loop-index.invariant

pub returns : goal.returns
returns c =
    let es = c.args.map.now.entries in
    let size = length-values_of es in
    let within = first-within (values_of es) in
    omega (arith, size, within, c.len.ensures.len, c.len-index-end.ensures.len, c.loop-index-test.false, c.loop-index.invariant)
