use Rattle.std.proofs.Common.{◌≡◌, ◌∙◌, nat_eq, ap, sym, None}
use Rattle.std.specs.Map.{values_of, lookup}
use Rattle.std.specs.Option.{option_flatten}
use Rattle.std.proofs.lemmas.Bool.{eq-eqb}
use Rattle.hsms_machine.proofs.KeptTransactions.{find-empty, find-oldest, find-lookup, at-value, none-at}
use Rattle.hsms_machine.proofs.transaction_map.Slots.found.Goals as goal

-- None is open.
pub returns-in_err-oldest-clause-found : goal.returns-in_err-oldest-clause-found
returns-in_err-oldest-clause-found c =
    let slots = values_of c.args.self.now.map.entries in
    rw c.from_residual.ensures (sym (find-empty c.args.system slots c.args.self.now.first c.requires.kept.starts (sym c.in_err-oldest.ensures)))

-- The oldest.
pub returns-then-oldest-system-clause-found : goal.returns-then-oldest-system-clause-found
returns-then-oldest-system-clause-found c =
    let slots = values_of c.args.self.now.map.entries in
    let oldest = c.in_ok-oldest.oldest in
    sym (find-oldest c.args.system slots c.args.self.now.first oldest c.requires.kept.starts (sym c.in_ok-oldest.ensures) (eq-eqb oldest.header.system c.args.system c.if-oldest-system.true))

-- No slot has them.
pub returns-in_err-index-clause-found : goal.returns-in_err-index-clause-found
returns-in_err-index-clause-found c =
    let es = c.args.self.now.map.entries in
    let none : lookup (nat_eq c.args.system) es ≡ None = none-at (lookup (nat_eq c.args.system) es) c.in_err-index.ensures.found in
    rw c.from_residual-in_err-index.ensures (sym (find-lookup c.args.system es c.requires.kept.keyed c.in_err-index.ensures.unique ∙ ap option_flatten none))

-- An empty slot has them.
pub returns-in_err-opened-clause-found : goal.returns-in_err-opened-clause-found
returns-in_err-opened-clause-found c =
    let es = c.args.self.now.map.entries in
    let at = ap option_flatten (sym c.in_ok-index.ensures.value) ∙ sym (at-value (values_of es) c.in_ok-index.index) ∙ sym c.in_err-opened.ensures in
    rw c.from_residual-in_err-opened.ensures (sym (find-lookup c.args.system es c.requires.kept.keyed c.in_ok-index.ensures.unique ∙ at))

-- An open one.
pub returns-clause-found : goal.returns-clause-found
returns-clause-found c =
    let es = c.args.self.now.map.entries in
    let at = ap option_flatten (sym c.in_ok-index.ensures.value) ∙ sym (at-value (values_of es) c.in_ok-index.index) ∙ sym c.in_ok-opened.ensures in
    sym (find-lookup c.args.system es c.requires.kept.keyed c.in_ok-index.ensures.unique ∙ at)
