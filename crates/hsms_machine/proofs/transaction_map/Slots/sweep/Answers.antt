use Rattle.std.proofs.Common.{◌≡◌, ◌∙◌, ap, sym, subst, filter, is_some, rules}
use Rattle.std.specs.Map.{values_of}
use Rattle.indexmap.proofs.CallerLemmas.{filter-RetainsPairs}
use Rattle.hsms_machine.specs.InnerOpeningOrder.{AreKept, open_in}
use Rattle.hsms_machine.proofs.KeptTransactions.{kept-swept, open-swept}
use Rattle.hsms_machine.proofs.transaction_map.Slots.sweep.Goals as goal

pub returns-clause-kept : goal.returns-clause-kept
returns-clause-kept c =
    let es = c.args.self.now.map.entries in
    let is : c.retain.new.self.entries ≡ filter (λ e. is_some e.1) es = filter-RetainsPairs _ _ _ (λ k v b w g call. search rules) _ _ c.retain.ensures.filtered in
    subst (AreKept 0 0) (sym is) (kept-swept c.args.self.now.first c.args.self.now.empty es c.requires.kept)

pub returns-clause-same : goal.returns-clause-same
returns-clause-same c =
    let es = c.args.self.now.map.entries in
    let is : c.retain.new.self.entries ≡ filter (λ e. is_some e.1) es = filter-RetainsPairs _ _ _ (λ k v b w g call. search rules) _ _ c.retain.ensures.filtered in
    ap (λ l. open_in (values_of l)) is ∙ open-swept es
