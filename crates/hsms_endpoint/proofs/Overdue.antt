-- A connection that is cut because a timer expired.
use Rattle.std.proofs.Common.{◌≡◌, ◌≢◌, ℕ, ◌-◌, ◌<◌, ◌≤◌, Bool, true, false, ◌&&◌, ◌||◌, nat_lt, nat_le, List, [], ◌∷◌, ◌++◌, Option, None, Some, is_some, refl, sym, ap, subst, ◌∙◌, inl, inr, ◌⊎◌, arith, if◌then◌else◌}
use Rattle.std.specs.List.{list_any}
use Rattle.std.proofs.lemmas.Bool.Decides.{nat_tests}
use Rattle.hsms_frame.specs.declared.header.Header.{Header}
use Rattle.hsms_machine.specs.declared.entry.Event.TheVariants.{Cut, Down}
use Rattle.hsms_machine.specs.declared.entry.Cause.{Cause}
use Rattle.hsms_machine.specs.declared.entry.Cause.TheVariants.{T6, T7, T8}
use Rattle.hsms_machine.specs.declared.phase.Phase.{Phase}
use Rattle.hsms_machine.specs.declared.phase.Phase.TheVariants as phase
use Rattle.hsms_machine.specs.declared.rule.Rule.{Rule}
use Rattle.hsms_machine.specs.declared.rule.Rule.TheVariants.{Backwards, NotUp, Ended, T3Overdue, LinkOverdue, NotDue, NoCause}
use Rattle.hsms_machine.specs.declared.open_transactions.Transaction.{Transaction}
use Rattle.hsms_machine.specs.Rule.{Breaks, IsFirst, all_rules, format_rules, transaction_rules}
use Rattle.hsms_machine.specs.Timer.{IsT7Overdue}
use Rattle.hsms_machine.specs.View.{oldest_of}
use Rattle.hsms_machine.specs.ViewRules.{facts_of, is_connected}
use Rattle.hsms_endpoint.specs.declared.state.State.{State}
use Rattle.hsms_endpoint.specs.InnerInternals.{known, entry_of}
use Rattle.hsms_endpoint.specs.Turn.{is_up, is_unselected, is_t6_overdue, is_t7_overdue, is_t8_overdue, overdue_cause}
use Rattle.hsms_endpoint.specs.ActionSteps.{IsCalm}
use Rattle.hsms_endpoint.specs.InnerActionSteps.{IsValidEvent}
use Rattle.hsms_endpoint.specs.Invariant.{IsSound}
use Rattle.hsms_endpoint.specs.InnerInvariant.{CanCut}
use Rattle.hsms_endpoint.specs.InnerExpiring.{IsLate, is_data_overdue, overdue_of}
use Rattle.hsms_endpoint.proofs.ValidOutputs.{none_of, first_same, down_valid}
use Rattle.hsms_endpoint.proofs.Steadiness.{up_is_not_before, up_is_not_over}
use Rattle.hsms_endpoint.proofs.ExpiredData.{none_overdue, found_overdue}

-- ---- T6 depends on the request that was sent first

or_true : (a b : Bool) → a ≡ true → (a || b) ≡ true
or_true a b e = ap (λ x. x || b) e

some_overdue : (limit moment : ℕ) (opened : List Transaction) (header : _) → overdue_of limit moment (oldest_of opened) ≡ Some header → list_any (λ (transaction : Transaction). nat_lt limit (moment - transaction.time)) opened ≡ true
some_overdue limit moment opened header e =
    let h = found_overdue limit moment opened header e in
    ap (λ (xs : List Transaction). list_any (λ (transaction : Transaction). nat_lt limit (moment - transaction.time)) xs) h.opened_are
    ∙ or_true (nat_lt limit (moment - h.first.time)) _ h.overdue

module _ (end : State) (late : IsLate end) where
  pub t6_overdue : (header : _) → overdue_of end.settings.t6 end.moment (oldest_of end.tracker.sent_control) ≡ Some header → is_t6_overdue end.tracker end.moment ≡ true
  t6_overdue header e =
      some_overdue end.tracker.settings.t6 end.moment end.tracker.sent_control header
      (subst (λ p. overdue_of p.t6 end.moment (oldest_of end.tracker.sent_control) ≡ Some header) late.settings e)

  pub t6_in_time : overdue_of end.settings.t6 end.moment (oldest_of end.tracker.sent_control) ≡ None → is_t6_overdue end.tracker end.moment ≡ false
  t6_in_time e =
      none_overdue end.tracker.settings.t6 end.moment end.tracker.sent_control late.control_ordered
      (subst (λ p. overdue_of p.t6 end.moment (oldest_of end.tracker.sent_control) ≡ None) late.settings e)

  pub t6_is_due : (oldest : Option Header) → oldest ≡ overdue_of end.settings.t6 end.moment (oldest_of end.tracker.sent_control) → is_some oldest ≡ is_t6_overdue end.tracker end.moment
  t6_is_due None e = sym (t6_in_time (sym e))
  t6_is_due (Some header) e = sym (t6_overdue header (sym e))

-- ---- T7 is derived from the rule that a `down` breaks

either : (b : Bool) → (b ≡ true) ⊎ (b ≡ false)
either true = inl refl
either false = inr refl

true_is_not_false : (b : Bool) → b ≡ false → b ≡ true → ⊥
true_is_not_false b f t = let d : true ≡ false = sym t ∙ f in cc

up_not_gone : (p : Phase) → is_up p ≡ true → p ≡ phase.Gone → ⊥
up_not_gone p up e = let d : false ≡ true = ap is_up (sym e) ∙ up in cc

past_rule : (Applies : Rule → Type 0) (rule : Rule) (rules : List Rule) (answer : Option Rule) → (Applies rule → ⊥) → IsFirst Applies (rule ∷ rules) answer → IsFirst Applies rules answer
past_rule Applies rule rules answer never h = elim h [ inl p ↦ absurd (never p.0) | inr q ↦ q.1 ]

unselected_phase : (p : Phase) (late : Bool) → (is_unselected p && late) ≡ true → (p ≡ phase.NotSelected) × (late ≡ true)
unselected_phase phase.Before late e = absurd (let d : false ≡ true = e in cc)
unselected_phase phase.NotSelected late e = (refl, e)
unselected_phase phase.Selected late e = absurd (let d : false ≡ true = e in cc)
unselected_phase phase.Over late e = absurd (let d : false ≡ true = e in cc)
unselected_phase phase.Gone late e = absurd (let d : false ≡ true = e in cc)

connected_late : (p : Phase) (late : Bool) → p ≡ phase.NotSelected → late ≡ true → (is_connected p && late) ≡ true
connected_late p late e l = ap (λ (q : Phase). is_connected q && late) e ∙ l

module _ (end : State) (late : IsLate end) (in_time : is_data_overdue end ≡ false) where
  not_backwards : end.moment < end.tracker.last_time → ⊥
  not_backwards b = let le : end.tracker.last_time ≤ end.moment = late.not_past in absurd (omega arith)

  not_down : ((¬ (end.tracker.phase ≢ phase.Before)) ⊎ (end.tracker.phase ≡ phase.Gone)) → ⊥
  not_down b = elim b [ inl n ↦ n (up_is_not_before end.tracker.phase late.up) | inr g ↦ up_not_gone end.tracker.phase late.up g ]

  calm_by : is_t6_overdue end.tracker end.moment ≡ false → is_t7_overdue end.tracker end.moment ≡ false → IsCalm end
  calm_by t6 t7 = record { not_past = late.not_past; data_in_time = in_time; control_in_time = t6; selected_in_time = t7 }

  t7_facts : is_t7_overdue end.tracker end.moment ≡ true → IsT7Overdue (facts_of end.tracker) end.tracker.settings end.moment
  t7_facts e =
      let h = unselected_phase end.tracker.phase (nat_lt end.tracker.settings.t7 (end.moment - end.tracker.up_time)) e in (
        (up_is_not_over end.tracker.phase late.up, up_not_gone end.tracker.phase late.up),
        (λ (s : end.tracker.phase ≡ phase.Selected). let d : phase.NotSelected ≡ phase.Selected = sym h.0 ∙ s in cc),
        connected_late end.tracker.phase _ h.0 h.1,
      )

  not_none : is_t7_overdue end.tracker end.moment ≡ true → IsFirst (Breaks (facts_of end.tracker) end.tracker.settings (record { time = end.moment; event = Down })) all_rules None → ⊥
  not_none e h =
      let Applies : Rule → Type 0 = Breaks (facts_of end.tracker) end.tracker.settings (entry_of end Down) in
      let subsequent : List Rule = format_rules ++ (transaction_rules ++ NoCause ∷ []) in
      let h1 = past_rule Applies Backwards (NotUp ∷ Ended ∷ T3Overdue ∷ LinkOverdue ∷ NotDue ∷ subsequent) None (λ b. not_backwards b) h in
      let h2 = past_rule Applies NotUp (Ended ∷ T3Overdue ∷ LinkOverdue ∷ NotDue ∷ subsequent) None (λ b. not_down b) h1 in
      let h3 = past_rule Applies Ended (T3Overdue ∷ LinkOverdue ∷ NotDue ∷ subsequent) None (λ b. up_is_not_over end.tracker.phase late.up b.1) h2 in
      let h4 = past_rule Applies T3Overdue (LinkOverdue ∷ NotDue ∷ subsequent) None (λ b. true_is_not_false _ in_time b.1.1) h3 in
      elim h4 [
        | inl p ↦ let d : ◌≡◌ {A = Option Rule} None (Some LinkOverdue) = p.1 in cc
        | inr q ↦ q.0 ((λ (d : false ≡ true). cc), inr (t7_facts e))
      ]

  pub t7_in_time : IsFirst (Breaks (facts_of end.tracker) end.tracker.settings (record { time = end.moment; event = Down })) all_rules None → is_t7_overdue end.tracker end.moment ≡ false
  t7_in_time h = elim (either (is_t7_overdue end.tracker end.moment)) [ inl e ↦ absurd (not_none e h) | inr e ↦ e ]

  pub t7_overdue : (rule : Rule) → is_t6_overdue end.tracker end.moment ≡ false → IsFirst (Breaks (facts_of end.tracker) end.tracker.settings (record { time = end.moment; event = Down })) all_rules (Some rule) → is_t7_overdue end.tracker end.moment ≡ true
  unfolding IsValidEvent
  t7_overdue rule t6 h = elim (either (is_t7_overdue end.tracker end.moment)) [
    | inl e ↦ e
    | inr e ↦ absurd
        (let d : ◌≡◌ {A = Option Rule} (Some rule) None = first_same (Breaks (facts_of end.tracker) end.tracker.settings (entry_of end Down)) all_rules (Some rule) None h (down_valid end late.up (calm_by t6 e)) in cc)
  ]

  pub t7_is_due : (broken : Option Rule) → is_t6_overdue end.tracker end.moment ≡ false → IsFirst (Breaks (facts_of end.tracker) end.tracker.settings (record { time = end.moment; event = Down })) all_rules broken → is_some broken ≡ is_t7_overdue end.tracker end.moment
  t7_is_due None t6 h = sym (t7_in_time h)
  t7_is_due (Some rule) t6 h = sym (t7_overdue rule t6 h)

  -- ---- the cut

  lt_le_all : (limit moment : ℕ) (xs : List Transaction) → list_any (λ (opened : Transaction). nat_lt limit (moment - opened.time)) xs ≡ true → list_any (λ (opened : Transaction). nat_le limit (moment - opened.time)) xs ≡ true
  lt_le_all limit moment [] e = e
  lt_le_all limit moment (x ∷ xs) e = joined (nat_lt limit (moment - x.time)) (nat_le limit (moment - x.time)) _ _ (lt_le limit (moment - x.time)) (lt_le_all limit moment xs) e
    where
      lt_le : (a b : ℕ) → nat_lt a b ≡ true → nat_le a b ≡ true
      lt_le a b e = grind (arith, nat_tests)

      joined : (a b c d : Bool) → (a ≡ true → b ≡ true) → (c ≡ true → d ≡ true) → (a || c) ≡ true → (b || d) ≡ true
      joined true b c d f g e = ap (λ x. x || d) (f refl)
      joined false true c d f g e = refl
      joined false false c d f g e = g e

  t6_never : is_t6_overdue end.tracker end.moment ≡ true → (rule : Rule) → Breaks (facts_of end.tracker) end.tracker.settings (entry_of end (Cut T6)) rule → ⊥
  t6_never e Backwards b = not_backwards b
  t6_never e NotUp b = not_down b
  t6_never e Ended b = up_is_not_over end.tracker.phase late.up b.1
  t6_never e T3Overdue b = true_is_not_false _ in_time b.1.1
  t6_never e LinkOverdue b = b.0 refl
  t6_never e NotDue b = b (lt_le_all end.tracker.settings.t6 end.moment end.tracker.sent_control e)
  t6_never e NoCause b = b
  t6_never e rule b = b

  not_both : (a b : ℕ) → nat_lt a b ≡ true → nat_lt b a ≡ true → ⊥
  not_both a b e f = grind (arith, nat_tests)

  second : (a b : Bool) → (a && b) ≡ true → b ≡ true
  second true b e = e
  second false b e = absurd (let d : false ≡ true = e in cc)

  t7_never : is_t7_overdue end.tracker end.moment ≡ true → (rule : Rule) → Breaks (facts_of end.tracker) end.tracker.settings (entry_of end (Cut T7)) rule → ⊥
  t7_never e Backwards b = not_backwards b
  t7_never e NotUp b = not_down b
  t7_never e Ended b = up_is_not_over end.tracker.phase late.up b.1
  t7_never e T3Overdue b = true_is_not_false _ in_time b.1.1
  t7_never e LinkOverdue b = b.0 refl
  t7_never e NotDue b = elim b [
    | inl s ↦ (t7_facts e).1 s
    | inr u ↦ not_both end.tracker.settings.t7 (end.moment - end.tracker.up_time)
        (second (is_unselected end.tracker.phase) _ e) (second (is_connected end.tracker.phase) _ u)
  ]
  t7_never e NoCause b = b
  t7_never e rule b = b

  t7_late : (t7 : is_t7_overdue end.tracker end.moment ≡ false) → IsT7Overdue (facts_of end.tracker) end.tracker.settings end.moment → ⊥
  t7_late t7 h = by_phase end.tracker.phase (nat_lt end.tracker.settings.t7 (end.moment - end.tracker.up_time)) late.up h.1 h.2 t7
    where
      by_phase : (p : Phase) (overdue : Bool) → is_up p ≡ true → (p ≡ phase.Selected → ⊥) → (is_connected p && overdue) ≡ true → (is_unselected p && overdue) ≡ false → ⊥
      by_phase phase.Before overdue up n t f = let d : false ≡ true = up in cc
      by_phase phase.NotSelected overdue up n t f = true_is_not_false overdue f t
      by_phase phase.Selected overdue up n t f = n refl
      by_phase phase.Over overdue up n t f = let d : false ≡ true = up in cc
      by_phase phase.Gone overdue up n t f = let d : false ≡ true = up in cc

  t8_never : is_t6_overdue end.tracker end.moment ≡ false → is_t7_overdue end.tracker end.moment ≡ false → (rule : Rule) → Breaks (facts_of end.tracker) end.tracker.settings (entry_of end (Cut T8)) rule → ⊥
  t8_never t6 t7 Backwards b = not_backwards b
  t8_never t6 t7 NotUp b = not_down b
  t8_never t6 t7 Ended b = up_is_not_over end.tracker.phase late.up b.1
  t8_never t6 t7 T3Overdue b = true_is_not_false _ in_time b.1.1
  t8_never t6 t7 LinkOverdue b = elim b.1 [ inl p ↦ true_is_not_false _ t6 p.1 | inr p ↦ t7_late t7 p ]
  t8_never t6 t7 NotDue b = b
  t8_never t6 t7 NoCause b = b
  t8_never t6 t7 rule b = b

  cut_t6_valid : is_t6_overdue end.tracker end.moment ≡ true → IsValidEvent end (Cut T6)
  unfolding IsValidEvent
  cut_t6_valid e = none_of (Breaks (facts_of end.tracker) end.tracker.settings (entry_of end (Cut T6))) all_rules (t6_never e)

  cut_t7_valid : is_t7_overdue end.tracker end.moment ≡ true → IsValidEvent end (Cut T7)
  unfolding IsValidEvent
  cut_t7_valid e = none_of (Breaks (facts_of end.tracker) end.tracker.settings (entry_of end (Cut T7))) all_rules (t7_never e)

  cut_t8_valid : is_t6_overdue end.tracker end.moment ≡ false → is_t7_overdue end.tracker end.moment ≡ false → IsValidEvent end (Cut T8)
  unfolding IsValidEvent
  cut_t8_valid t6 t7 = none_of (Breaks (facts_of end.tracker) end.tracker.settings (entry_of end (Cut T8))) all_rules (t8_never t6 t7)

  by_cause : (b6 b7 b8 : Bool) (cause : Cause) → b6 ≡ is_t6_overdue end.tracker end.moment → b7 ≡ is_t7_overdue end.tracker end.moment → ◌≡◌ {A = Option Cause} (if b6 then Some T6 else if b7 then Some T7 else if b8 then Some T8 else None) (Some cause) → IsValidEvent end (Cut cause)
  by_cause true b7 b8 cause e6 e7 e = subst (λ (c : Cause). IsValidEvent end (Cut c)) (let d : ◌≡◌ {A = Option Cause} (Some T6) (Some cause) = e in cc) (cut_t6_valid (sym e6))
  by_cause false true b8 cause e6 e7 e = subst (λ (c : Cause). IsValidEvent end (Cut c)) (let d : ◌≡◌ {A = Option Cause} (Some T7) (Some cause) = e in cc) (cut_t7_valid (sym e7))
  by_cause false false true cause e6 e7 e = subst (λ (c : Cause). IsValidEvent end (Cut c)) (let d : ◌≡◌ {A = Option Cause} (Some T8) (Some cause) = e in cc) (cut_t8_valid (sym e6) (sym e7))
  by_cause false false false cause e6 e7 e = absurd (let d : ◌≡◌ {A = Option Cause} None (Some cause) = e in cc)

  -- An endpoint that is cut because a timer expired.
  cut_overdue_valid : (cause : Cause) → overdue_cause (known end) ≡ Some cause → IsValidEvent end (Cut cause)
  cut_overdue_valid cause e = by_cause (is_t6_overdue end.tracker end.moment) (is_t7_overdue end.tracker end.moment) (is_t8_overdue (known end)) cause refl refl e

  calm_if : (b6 b7 b8 : Bool) → b6 ≡ is_t6_overdue end.tracker end.moment → b7 ≡ is_t7_overdue end.tracker end.moment → ◌≡◌ {A = Option Cause} (if b6 then Some T6 else if b7 then Some T7 else if b8 then Some T8 else None) None → IsCalm end
  calm_if true b7 b8 e6 e7 e = absurd (let d : ◌≡◌ {A = Option Cause} (Some T6) None = e in cc)
  calm_if false true b8 e6 e7 e = absurd (let d : ◌≡◌ {A = Option Cause} (Some T7) None = e in cc)
  calm_if false false true e6 e7 e = absurd (let d : ◌≡◌ {A = Option Cause} (Some T8) None = e in cc)
  calm_if false false false e6 e7 e = calm_by (sym e6) (sym e7)

  -- Nothing is overdue after a tick: an endpoint that is not cut satisfies the invariant between calls.
  pub nothing_is_overdue_after_tick : overdue_cause (known end) ≡ None → IsSound end
  nothing_is_overdue_after_tick e =
      record {
        settings = late.settings;
        within = late.within;
        limit = late.limit;
        not_over = up_is_not_over end.tracker.phase late.up;
        fresh = λ before. absurd (up_is_not_before end.tracker.phase late.up before);
        steady = λ up. record {
          calm = calm_if (is_t6_overdue end.tracker end.moment) (is_t7_overdue end.tracker end.moment) (is_t8_overdue (known end)) refl refl e;
          taken_data = late.taken_data;
          taken_control = late.taken_control;
          few = late.few;
          unselected = late.unselected;
        };
      }

  -- A timer expired.
  pub can_cut_overdue : (cause : Cause) → overdue_cause (known end) ≡ Some cause → CanCut end cause
  can_cut_overdue cause e =
      record { settings = late.settings; within = late.within; limit = late.limit; up = late.up; is_valid = cut_overdue_valid cause e }

  -- ---- the values that the endpoint checks

  pub cause_t6 : (oldest : Option Header) → is_some oldest ≡ true → oldest ≡ overdue_of end.settings.t6 end.moment (oldest_of end.tracker.sent_control) → Some T6 ≡ overdue_cause (known end)
  cause_t6 oldest some e =
      ap (λ b. if b then Some T6 else if is_t7_overdue end.tracker end.moment then Some T7 else if is_t8_overdue (known end) then Some T8 else None) (sym some ∙ t6_is_due end late oldest e)

  -- T6 is not overdue.
  module _ (t6 : is_t6_overdue end.tracker end.moment ≡ false) where
    past_t6 : overdue_cause (known end) ≡ (if is_t7_overdue end.tracker end.moment then Some T7 else if is_t8_overdue (known end) then Some T8 else None)
    past_t6 = ap (λ b. if b then Some T6 else if is_t7_overdue end.tracker end.moment then Some T7 else if is_t8_overdue (known end) then Some T8 else None) t6

    pub cause_after : (broken : Option Rule) (t7 : Bool) (cause : Option Cause) → is_some broken ≡ t7
        → IsFirst (Breaks (facts_of end.tracker) end.tracker.settings (record { time = end.moment; event = Down })) all_rules broken
        → cause ≡ (if t7 then Some T7 else if is_t8_overdue (known end) then Some T8 else None) → cause ≡ overdue_cause (known end)
    cause_after broken t7 cause is input_event e =
        e ∙ ap (λ b. if b then Some T7 else if is_t8_overdue (known end) then Some T8 else None) (sym is ∙ t7_is_due broken t6 input_event) ∙ sym past_t6
