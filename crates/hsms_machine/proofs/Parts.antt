-- An entry in two parts, and what does not depend on the text.
use Rattle.std.proofs.Common.{◌≡◌, ◌⊎◌, ◌&&◌, ◌||◌, not, ℕ, Bool, true, false, List, [], Option, None, inl, inr, refl, sym}
use Rattle.hsms_machine.specs.declared.entry.Act.{Act}
use Rattle.hsms_machine.specs.declared.entry.Act.TheVariants.{Up as ActUp, Sent as ActSent, Taken as ActTaken, Discarded as ActDiscarded, T3 as ActT3, Cut as ActCut, Down as ActDown}
use Rattle.hsms_machine.specs.declared.rule.Rule.{Rule}
use Rattle.hsms_machine.specs.declared.view.View.{View}
use Rattle.hsms_machine.specs.Settings.{Parameters}
use Rattle.hsms_machine.specs.EventParts.{entry_of}
use Rattle.hsms_machine.specs.Session.{Facts}
use Rattle.hsms_machine.specs.Rule.{Breaks, IsFirst, all_rules, order_rules, timer_rules}
use Rattle.hsms_machine.specs.ViewRules.{facts_of, view_after, IsBrokenAt}
use Rattle.hsms_machine.specs.InnerViewRules.{IsFresh}
use Rattle.hsms_machine.proofs.SameFacts.{never_from}

module _ (facts : Facts) (settings : Parameters) (time : ℕ) where
  -- The rules of order and of timers do not depend on the text.
  pub order_at : (act : Act) (text : List ℕ) (a : Option Rule) → IsFirst (Breaks facts settings (entry_of time act [])) order_rules a → IsFirst (Breaks facts settings (entry_of time act text)) order_rules a
  order_at ActUp text a h = h
  order_at (ActSent header) text a h = h
  order_at (ActTaken header) text a h = h
  order_at (ActDiscarded header) text a h = h
  order_at (ActT3 system) text a h = h
  order_at (ActCut cause) text a h = h
  order_at ActDown text a h = h

  pub timer_at : (act : Act) (text : List ℕ) (a : Option Rule) → IsFirst (Breaks facts settings (entry_of time act [])) timer_rules a → IsFirst (Breaks facts settings (entry_of time act text)) timer_rules a
  timer_at ActUp text a h = h
  timer_at (ActSent header) text a h = h
  timer_at (ActTaken header) text a h = h
  timer_at (ActDiscarded header) text a h = h
  timer_at (ActT3 system) text a h = h
  timer_at (ActCut cause) text a h = h
  timer_at ActDown text a h = h

-- Neither does the effect of an entry.
pub after_at : (view : View) (time : ℕ) (act : Act) (text : List ℕ) → view_after view (entry_of time act []) ≡ view_after view (entry_of time act text)
after_at view time ActUp text = refl
after_at view time (ActSent header) text = refl
after_at view time (ActTaken header) text = refl
after_at view time (ActDiscarded header) text = refl
after_at view time (ActT3 system) text = refl
after_at view time (ActCut cause) text = refl
after_at view time ActDown text = refl

pub unused : (b : Bool) → (b ≡ true → ⊥) → b ≡ false
unused true never = absurd (never refl)
unused false never = refl

-- A valid request is fresh.
pub fresh_at : (view : View) (time : ℕ) (act : Act) (text : List ℕ) → IsBrokenAt view (entry_of time act text) None → IsFresh view act
fresh_at view time (ActSent header) text h =
    let never = never_from (Breaks (facts_of view) view.settings (entry_of time (ActSent header) text)) all_rules h in
    let fresh = never.1.1.1.1.1.1.1.1.1.1.1.1.1.1.1.0 in
    λ opens. (unused _ (λ e. fresh (opens, inl e)), unused _ (λ e. fresh (opens, inr e)))
fresh_at view time (ActTaken header) text h =
    let never = never_from (Breaks (facts_of view) view.settings (entry_of time (ActTaken header) text)) all_rules h in
    let fresh = never.1.1.1.1.1.1.1.1.1.1.1.1.1.1.1.0 in
    λ opens. (unused _ (λ e. fresh (opens, inl e)), unused _ (λ e. fresh (opens, inr e)))
fresh_at view time ActUp text h = tt
fresh_at view time (ActDiscarded header) text h = tt
fresh_at view time (ActT3 system) text h = tt
fresh_at view time (ActCut cause) text h = tt
fresh_at view time ActDown text h = tt

-- What is not in use is fresh: for a request, and for the lists of one direction.
pub fresh_where : (used request one other : Bool) → ((used ≡ true → (request ≡ true) × ((one ≡ true) ⊎ (other ≡ true))) × ((request ≡ true) × ((one ≡ true) ⊎ (other ≡ true)) → used ≡ true)) → not used ≡ (not request || (not one && not other))
fresh_where true true true other iff = refl
fresh_where true true false true iff = refl
fresh_where true true false false iff = elim (iff.0 refl).1 [ inl e ↦ e | inr e ↦ e ]
fresh_where true false one other iff = (iff.0 refl).0
fresh_where false true true other iff = sym (iff.1 (refl, inl refl))
fresh_where false true false true iff = sym (iff.1 (refl, inr refl))
fresh_where false true false false iff = refl
fresh_where false false one other iff = refl
