use Rattle.std.proofs.Common.{◌≡◌, ◌∙◌, ◌==◌, ap, sym, not, filter, true, Some, None}
use Rattle.std.specs.List.{list_any, find}
use Rattle.std.specs.Map.{values_of}
use Rattle.hsms_machine.specs.declared.open_transactions.Transaction.{Transaction}
use Rattle.hsms_machine.specs.Transaction.{passes, concludes}
use Rattle.hsms_machine.specs.InnerOpeningOrder.{open_in}
use Rattle.hsms_machine.proofs.Mapped.{any_at, filter_one, concludes_only}
use Rattle.hsms_machine.proofs.KeptTransactions.{filter-of}
use Rattle.hsms_machine.proofs.transaction_map.Queue.remove_concluded.Goals as goal

pub returns-in_default : goal.returns-in_default
returns-in_default c =
    let other = c.args.other in
    let opened_ones = open_in (values_of c.self.inside.slots.map.entries) in
    let found : find (λ (opened : Transaction). opened.header.system == other.system) opened_ones ≡ None = sym (rw c.header.ensures at c.in_default.ensures.found) in
    filter-of (λ opened. concludes opened.header other) opened_ones c.args.self.now c.self.view_is
    (any_at (λ opened. concludes opened.header other) other.system (concludes_only other) opened_ones c.self.invariant.apart
    ∙ ap (passes (λ opened. concludes opened.header other)) found)

pub returns-then-concludes : goal.returns-then-concludes
returns-then-concludes c =
    let other = c.args.other in
    let opened = c.in-Some.opened in
    let opened_ones = open_in (values_of c.self.inside.slots.map.entries) in
    let found : find (λ (opened : Transaction). opened.header.system == other.system) opened_ones ≡ Some opened = sym (rw c.header.ensures at c.in-Some.ensures.found) in
    let ends : concludes opened.header other ≡ true = sym c.concludes.ensures ∙ c.if-concludes.true in
    let some : list_any (λ (opened : Transaction). concludes opened.header other) opened_ones ≡ true =
    any_at (λ (opened : Transaction). concludes opened.header other) other.system (concludes_only other) opened_ones c.self.invariant.apart
    ∙ ap (passes (λ (opened : Transaction). concludes opened.header other)) found ∙ ends in
    c.close.ensures.closed
    ∙ filter_one (λ opened. concludes opened.header other) opened.header.system (λ x is. concludes_only other x is ∙ sym (concludes_only other opened ends)) opened_ones c.self.invariant.apart some
    ∙ ap (filter (λ x. not (concludes x.header other))) c.self.view_is

pub returns-else-concludes : goal.returns-else-concludes
returns-else-concludes c =
    let other = c.args.other in
    let opened_ones = open_in (values_of c.self.inside.slots.map.entries) in
    let found : find (λ (opened : Transaction). opened.header.system == other.system) opened_ones ≡ Some c.in-Some.opened = sym (rw c.header.ensures at c.in-Some.ensures.found) in
    filter-of (λ opened. concludes opened.header other) opened_ones c.args.self.now c.self.view_is
    (any_at (λ opened. concludes opened.header other) other.system (concludes_only other) opened_ones c.self.invariant.apart
    ∙ ap (passes (λ opened. concludes opened.header other)) found ∙ sym c.concludes.ensures ∙ c.if-concludes.false)
