-- All entries that are logged because a timer expired.
use Rattle.std.proofs.Common.{◌≡◌, ℕ, ◌-◌, ◌≤◌, max, true, false, nat_lt, List, [], ◌∷◌, ◌++◌, map, filter, Option, None, Some, refl, sym, ap, subst, ◌∙◌, arith, if◌then◌else◌}
use Rattle.hsms_frame.specs.declared.header.Header.{Header}
use Rattle.hsms_machine.specs.declared.entry.Entry.{Entry}
use Rattle.hsms_machine.specs.declared.entry.Cause.{Cause}
use Rattle.hsms_machine.specs.declared.phase.Phase.{Phase}
use Rattle.hsms_machine.specs.declared.phase.Phase.TheVariants as phase
use Rattle.hsms_machine.specs.declared.open_transactions.Transaction.{Transaction}
use Rattle.hsms_machine.specs.Settings.{Parameters}
use Rattle.hsms_machine.specs.ViewRules.{IsInOrder}
use Rattle.hsms_endpoint.specs.declared.state.State.{State}
use Rattle.hsms_endpoint.specs.Frame.{warning}
use Rattle.hsms_endpoint.specs.Action.{Act, asks}
use Rattle.hsms_endpoint.specs.Reaction.{is_equipment}
use Rattle.hsms_endpoint.specs.Turn.{is_up, is_unselected, expired_at, expiry, expiry_warning, overdue_cause, after_expiries, expiries, cut_by}
use Rattle.hsms_endpoint.specs.InnerActionSteps.{Performs}
use Rattle.hsms_endpoint.specs.Invariant.{IsSound}
use Rattle.hsms_endpoint.specs.InnerExpiring.{IsLate, is_data_overdue, headers_of, HasExpired, MayWarn, warns_of, warnings_of}
use Rattle.hsms_endpoint.specs.InnerInternals.{known, at_later}
use Rattle.hsms_endpoint.proofs.Acts.{does_then}
use Rattle.hsms_endpoint.proofs.Ordering.{ordered_later}
use Rattle.hsms_endpoint.proofs.ExpiredData.{all_expired}

-- A sound endpoint whose time advances.
pub late_at : (end : State) (now : ℕ) → IsSound end → IsInOrder end.tracker → is_up end.tracker.phase ≡ true → IsLate (at_later end now)
late_at end now sound order up =
    let steady = sound.steady up in
    let le : end.tracker.last_time ≤ end.moment = steady.calm.not_past in
    record {
      settings = sound.settings;
      within = sound.within;
      limit = sound.limit;
      up = up;
      not_past = omega arith;
      taken_data = steady.taken_data;
      taken_control = steady.taken_control;
      few = steady.few;
      unselected = steady.unselected;
      data_ordered = ordered_later end.tracker.last_time (max end.moment now) end.tracker.sent_data (omega arith) order.sent_data;
      control_ordered = ordered_later end.tracker.last_time (max end.moment now) end.tracker.sent_control (omega arith) order.sent_control;
    }

same_warnings : (settings : Parameters) (xs : List Transaction) → map (warns_of settings) (headers_of xs) ≡ map (expiry_warning settings) xs
same_warnings settings [] = refl
same_warnings settings (x ∷ xs) = ap (λ acts. asks (warning settings 9 x.header) ∷ acts) (same_warnings settings xs)

selected_if : (p : Phase) → is_up p ≡ true → (is_unselected p ≡ true → ⊥) → p ≡ phase.Selected
selected_if phase.Before up n = absurd (let d : false ≡ true = up in cc)
selected_if phase.NotSelected up n = absurd (n refl)
selected_if phase.Selected up n = refl
selected_if phase.Over up n = absurd (let d : false ≡ true = up in cc)
selected_if phase.Gone up n = absurd (let d : false ≡ true = up in cc)

-- If own data expired, the session is selected.
may_warn_of : (start : State) → IsLate start → (xs : List Transaction) → xs ≡ expired_at start.tracker start.moment → MayWarn start.tracker.phase (headers_of xs)
may_warn_of start late [] e = tt
may_warn_of start late (x ∷ xs) e =
    selected_if start.tracker.phase late.up
    (λ u. let d : ◌≡◌ {A = List Transaction} (x ∷ xs) [] = e ∙ ap (λ (ys : List Transaction). filter (λ (opened : Transaction). nat_lt start.tracker.settings.t3 (start.moment - opened.time)) ys) (late.unselected u) in cc)

module _ (start middle : State) (before entries : List Entry) (headers : List Header) (h : HasExpired start before middle entries headers) (in_time : is_data_overdue middle ≡ false) where
  all : h.expired ≡ expired_at start.tracker start.moment
  all = all_expired start middle before entries headers h in_time

  same_cause : overdue_cause (known middle) ≡ overdue_cause (known start)
  same_cause = ap (λ (s : State). overdue_cause (known s)) h.same

  pub expired_may_warn : IsLate start → MayWarn middle.tracker.phase headers
  expired_may_warn late =
      subst (λ (p : Phase). MayWarn p headers) (sym (ap (λ (s : State). s.tracker.phase) h.same))
      (subst (λ hs. MayWarn start.tracker.phase hs) (sym h.headers_are) (may_warn_of start late h.expired all))

  pub expired_then_cut : (end' : State) (more : List Entry) (cause : Cause) → overdue_cause (known middle) ≡ Some cause → Performs middle entries (cut_by cause) end' more → Performs start before (expiries (known start)) end' more
  expired_then_cut end' more cause e cut =
      let acts : map expiry h.expired ++ cut_by cause ≡ expiries (known start) =
      ap (λ (xs : List Transaction). map expiry xs ++ cut_by cause) all
      ∙ ap (λ (c : Option Cause). map expiry (expired_at start.tracker start.moment) ++ after_expiries (known start).settings (expired_at start.tracker start.moment) c) (sym e ∙ same_cause) in
      subst (λ (acts : List Act). Performs start before acts end' more) acts
      (does_then start middle end' before entries more (map expiry h.expired) (cut_by cause) h.does cut)

  pub expired_then_warned : (end' : State) (more : List Entry) → overdue_cause (known middle) ≡ None → Performs middle entries (warnings_of middle.settings headers) end' more → Performs start before (expiries (known start)) end' more
  expired_then_warned end' more e warned =
      let xs : List Transaction = expired_at start.tracker start.moment in
      let warnings : warnings_of middle.settings headers ≡ after_expiries (known start).settings xs None =
      ap (λ (p : Parameters). warnings_of p headers) (ap (λ (s : State). s.settings) h.same)
      ∙ ap (λ hs. warnings_of start.settings hs) (h.headers_are ∙ ap headers_of all)
      ∙ ap (λ (acts : List Act). if is_equipment start.settings.role then acts else []) (same_warnings start.settings xs) in
      let acts : map expiry h.expired ++ warnings_of middle.settings headers ≡ expiries (known start) =
      ap (λ (ys : List Transaction). map expiry ys ++ warnings_of middle.settings headers) all
      ∙ ap (λ (acts : List Act). map expiry xs ++ acts) warnings
      ∙ ap (λ (c : Option Cause). map expiry xs ++ after_expiries (known start).settings xs c) (sym e ∙ same_cause) in
      subst (λ (acts : List Act). Performs start before acts end' more) acts
      (does_then start middle end' before entries more (map expiry h.expired) (warnings_of middle.settings headers) h.does warned)
