use Rattle.std.proofs.Common.{◌≡◌, ◌∙◌, ◌==◌, ap, sym, not, filter, is_some, Some, None}
use Rattle.std.specs.List.{find}
use Rattle.std.specs.Map.{values_of}
use Rattle.std.proofs.lemmas.Bool.{eqb-true}
use Rattle.hsms_machine.specs.declared.open_transactions.Transaction.{Transaction}
use Rattle.hsms_machine.specs.InnerOpeningOrder.{open_in}
use Rattle.hsms_machine.proofs.Mapped.{find-some}
use Rattle.hsms_machine.proofs.KeptTransactions.{filter-of, found_passes}
use Rattle.hsms_machine.proofs.transaction_map.Queue.remove_system.Goals as goal

pub returns-in-Some : goal.returns-in-Some
returns-in-Some c =
    let opened = c.in-Some.opened in
    let opened_ones = open_in (values_of c.self.inside.slots.map.entries) in
    let found : find (λ (other : Transaction). other.header.system == c.args.system) opened_ones ≡ Some opened = sym c.in-Some.ensures.found in
    let same = eqb-true opened.header.system c.args.system (found_passes (λ other. other.header.system == c.args.system) opened opened_ones found) in
    c.close.ensures.closed ∙ ap (λ s. filter (λ (other : Transaction). not (other.header.system == s)) opened_ones) same
    ∙ ap (filter (λ other. not (other.header.system == c.args.system))) c.self.view_is

pub returns-in_default : goal.returns-in_default
returns-in_default c =
    let opened_ones = open_in (values_of c.self.inside.slots.map.entries) in
    let found : find (λ (opened : Transaction). opened.header.system == c.args.system) opened_ones ≡ None = sym c.in_default.ensures.found in
    filter-of (λ opened. opened.header.system == c.args.system) opened_ones c.args.self.now c.self.view_is
    (sym (find-some (λ opened. opened.header.system == c.args.system) opened_ones) ∙ ap is_some found)
