use Rattle.std.proofs.Common.{◌≡◌, ◌<◌, ◌^◌, ◌+◌, ◌∙◌, ap, not, sym, subst, nat_eq, Some, None, length}
use Rattle.std.specs.Prelude.{Result, Ok, Err, OnOk, OnErr}
use Rattle.std.specs.List.{position_or_len}
use Rattle.std.specs.Map.{values_of, keys_of, lookup}
use Rattle.indexmap.specs.IndexMap.{insert_entry}
use Rattle.indexmap.proofs.CallerLemmas.{insert_entry-new}
use Rattle.hsms_machine.specs.InnerOpeningOrder.{AreKept, AreBelow, open_in}
use Rattle.hsms_machine.proofs.KeptTransactions.{Placed, placed_by, new_by, kept-new, kept-moved, moved-entries, left-entries, values-moved, values-push, open-push}
use Rattle.hsms_machine.proofs.transaction_map.Slots.push.Goals as goal

either : {X E : Type 0} {P Q R : Type 0} (r : Result X E) → OnOk r P → OnErr r Q → (P → R) → (Q → R) → R
either (Ok x) p q f g = f p
either (Err e) p q f g = g q

ok-map : {X E : Type 0} {P Q : Type 0} (r : Result X E) → OnOk r P → (P → Q) → OnOk r Q
ok-map (Ok x) p f = f p
ok-map (Err e) p f = tt

err-map : {X E : Type 0} {P Q : Type 0} (r : Result X E) → OnErr r P → (P → Q) → OnErr r Q
err-map (Ok x) p f = tt
err-map (Err e) p f = f p

-- None had the system bytes.
pub returns-then-is_none-clause-kept : goal.returns-then-is_none-clause-kept
returns-then-is_none-clause-kept c =
    let opened = c.args.transaction in
    let map = c.args.self.now.map in
    let old = c.in_ok-index.ensures.old ∙ ap (λ k. lookup (nat_eq k) map.entries) c.requires.system in
    let inserted = c.in_ok-index.ensures.entries ∙ ap (λ k. insert_entry nat_eq map.entries k (Some opened)) c.requires.system in
    let fits : opened.header.system < 2 ^ 32 = subst (λ n. n < 2 ^ 32) c.requires.system c.ranges.system.fits in
    let none : lookup (nat_eq opened.header.system) map.entries ≡ None = new_by c.in_ok-index.before (lookup (nat_eq opened.header.system) map.entries) old (c.is_none.ensures ∙ ap not c.if-is_none.true) in
    let is = inserted ∙ insert_entry-new nat_eq map opened.header.system (Some opened) none in
    subst (AreKept c.args.self.now.first c.args.self.now.empty) (sym is) (kept-new c.args.self.now.first c.args.self.now.empty map.entries opened c.requires.kept fits c.requires.fresh c.requires.later)

pub returns-then-is_none-clause-ok : goal.returns-then-is_none-clause-ok
returns-then-is_none-clause-ok c =
    let opened = c.args.transaction in
    let map = c.args.self.now.map in
    let old = c.in_ok-index.ensures.old ∙ ap (λ k. lookup (nat_eq k) map.entries) c.requires.system in
    let inserted = c.in_ok-index.ensures.entries ∙ ap (λ k. insert_entry nat_eq map.entries k (Some opened)) c.requires.system in
    let none : lookup (nat_eq opened.header.system) map.entries ≡ None = new_by c.in_ok-index.before (lookup (nat_eq opened.header.system) map.entries) old (c.is_none.ensures ∙ ap not c.if-is_none.true) in
    let is = inserted ∙ insert_entry-new nat_eq map opened.header.system (Some opened) none in
    ap (λ entries. open_in (values_of entries)) is ∙ ap open_in (values-push map.entries (opened.header.system, Some opened)) ∙ open-push (values_of map.entries) opened

-- An empty slot had them.
pub move_last-requires-clause-below : goal.move_last-requires-clause-below
move_last-requires-clause-below c =
    let opened = c.args.transaction in
    let es = c.args.self.now.map.entries in
    let old = c.in_ok-index.ensures.old ∙ ap (λ k. lookup (nat_eq k) es) c.requires.system in
    let inserted = c.in_ok-index.ensures.entries ∙ ap (λ k. insert_entry nat_eq es k (Some opened)) c.requires.system in
    let p : Placed es opened.header.system (Some opened) = placed_by es opened c.in_ok-index.before c.requires.kept.keyed c.requires.fresh old (c.is_none.ensures ∙ ap not c.if-is_none.false) in
    let is : c.insert_full.new.self.entries ≡ insert_entry nat_eq es opened.header.system (Some opened) = inserted in
    subst (λ l. AreBelow (2 ^ 32 + length l) l) (sym is) (subst (λ n. AreBelow (2 ^ 32 + n) (insert_entry nat_eq es opened.header.system (Some opened))) (sym p.size) (p.below (2 ^ 32 + length es) c.requires.kept.below))

pub returns-clause-kept : goal.returns-clause-kept
returns-clause-kept c =
    let opened = c.args.transaction in
    let es = c.args.self.now.map.entries in
    let old = c.in_ok-index.ensures.old ∙ ap (λ k. lookup (nat_eq k) es) c.requires.system in
    let inserted = c.in_ok-index.ensures.entries ∙ ap (λ k. insert_entry nat_eq es k (Some opened)) c.requires.system in
    let fits : opened.header.system < 2 ^ 32 = subst (λ n. n < 2 ^ 32) c.requires.system c.ranges.system.fits in
    let p : Placed es opened.header.system (Some opened) = placed_by es opened c.in_ok-index.before c.requires.kept.keyed c.requires.fresh old (c.is_none.ensures ∙ ap not c.if-is_none.false) in
    let at = c.in_ok-index.ensures.index ∙ ap (λ k. position_or_len (nat_eq k) (keys_of es)) c.requires.system ∙ p.is in
    either c.move_last.result c.move_last.ensures.ok c.move_last.ensures.err
    (λ has. subst (AreKept c.args.self.now.first c.args.self.now.empty) (sym (moved-entries es opened p c.in_ok-index.index c.insert_full.new.self.entries c.move_last.new.map.entries at inserted has))
    (kept-moved c.args.self.now.first c.args.self.now.empty es p.index opened c.requires.kept p.empty fits c.requires.fresh c.requires.later))
    (λ has. subst (AreKept c.args.self.now.first c.args.self.now.empty) (sym (left-entries es opened p c.in_ok-index.index c.insert_full.new.self.entries c.move_last.new.map.entries at inserted has)) c.requires.kept)

pub returns-clause-ok : goal.returns-clause-ok
returns-clause-ok c =
    let opened = c.args.transaction in
    let es = c.args.self.now.map.entries in
    let old = c.in_ok-index.ensures.old ∙ ap (λ k. lookup (nat_eq k) es) c.requires.system in
    let inserted = c.in_ok-index.ensures.entries ∙ ap (λ k. insert_entry nat_eq es k (Some opened)) c.requires.system in
    let p : Placed es opened.header.system (Some opened) = placed_by es opened c.in_ok-index.before c.requires.kept.keyed c.requires.fresh old (c.is_none.ensures ∙ ap not c.if-is_none.false) in
    let at = c.in_ok-index.ensures.index ∙ ap (λ k. position_or_len (nat_eq k) (keys_of es)) c.requires.system ∙ p.is in
    ok-map c.move_last.result c.move_last.ensures.ok
    (λ has. ap (λ entries. open_in (values_of entries)) (moved-entries es opened p c.in_ok-index.index c.insert_full.new.self.entries c.move_last.new.map.entries at inserted has)
    ∙ ap open_in (values-moved es p.index opened p.empty) ∙ open-push (values_of es) opened)

pub returns-clause-err : goal.returns-clause-err
returns-clause-err c =
    let opened = c.args.transaction in
    let es = c.args.self.now.map.entries in
    let old = c.in_ok-index.ensures.old ∙ ap (λ k. lookup (nat_eq k) es) c.requires.system in
    let inserted = c.in_ok-index.ensures.entries ∙ ap (λ k. insert_entry nat_eq es k (Some opened)) c.requires.system in
    let p : Placed es opened.header.system (Some opened) = placed_by es opened c.in_ok-index.before c.requires.kept.keyed c.requires.fresh old (c.is_none.ensures ∙ ap not c.if-is_none.false) in
    let at = c.in_ok-index.ensures.index ∙ ap (λ k. position_or_len (nat_eq k) (keys_of es)) c.requires.system ∙ p.is in
    err-map c.move_last.result c.move_last.ensures.err
    (λ has. ap (λ entries. open_in (values_of entries)) (left-entries es opened p c.in_ok-index.index c.insert_full.new.self.entries c.move_last.new.map.entries at inserted has))
