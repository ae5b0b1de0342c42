-- The invariant of an endpoint between calls is preserved by its acts.
use Rattle.std.proofs.Common.{◌≡◌, ℕ, ◌+◌, ◌-◌, ◌≤◌, Bool, true, false, ◌&&◌, ◌||◌, not, nat_lt, List, [], ◌∷◌, ◌++◌, length, filter, option_to_list, None, Some, refl, sym, ap, subst, ◌∙◌, inl, inr, ◌⊎◌, arith, if◌then◌else◌}
use Rattle.std.specs.List.{list_any}
use Rattle.std.proofs.lemmas.Bool.Decides.{nat_tests}
use Rattle.hsms_frame.specs.declared.header.Header.{Header}
use Rattle.hsms_frame.specs.Frame.{Frame}
use Rattle.hsms_machine.specs.declared.entry.Event.TheVariants.{Up, Sent, Down}
use Rattle.hsms_machine.specs.declared.phase.Phase.{Phase}
use Rattle.hsms_machine.specs.declared.phase.Phase.TheVariants as phase
use Rattle.hsms_machine.specs.declared.rule.Rule.{Rule}
use Rattle.hsms_machine.specs.declared.rule.Rule.TheVariants.{Backwards, NotUp, Ended, T3Overdue, LinkOverdue, NotDue, NoCause}
use Rattle.hsms_machine.specs.declared.open_transactions.Transaction.{Transaction}
use Rattle.hsms_machine.specs.Message.{is_data_request, is_control_request, establishes, separates}
use Rattle.hsms_machine.specs.Transaction.{opened_by, concludes}
use Rattle.hsms_machine.specs.Settings.{IsWithinLimits}
use Rattle.hsms_machine.specs.Rule.{Breaks, all_rules}
use Rattle.hsms_machine.specs.View.{phase_by, own_open_of}
use Rattle.hsms_machine.specs.ViewRules.{facts_of, phase_after, is_gone, is_over, is_selected, is_connected}
use Rattle.hsms_endpoint.specs.declared.state.State.{State}
use Rattle.hsms_endpoint.specs.InnerInternals.{entry_of, after_event}
use Rattle.hsms_endpoint.specs.Turn.{is_up, is_unselected}
use Rattle.hsms_endpoint.specs.InnerActionSteps.{IsValidEvent}
use Rattle.hsms_endpoint.specs.Invariant.{IsFresh, IsSteady, IsSound}
use Rattle.hsms_endpoint.proofs.ValidOutputs.{none_of}

-- ---- a connection that is closed

pub down_phase : (p : Phase) → phase_after p Down ≡ phase.Gone
down_phase phase.Before = refl
down_phase phase.NotSelected = refl
down_phase phase.Selected = refl
down_phase phase.Over = refl
down_phase phase.Gone = refl

-- An endpoint whose connection is down has no further obligations.
pub sound_gone : (end : State) → end.settings ≡ end.tracker.settings → IsWithinLimits end.settings → end.framer.max ≡ end.settings.max → end.tracker.phase ≡ phase.Gone → IsSound end
sound_gone end settings within limit gone =
    record {
      settings = settings;
      within = within;
      limit = limit;
      not_over = λ e. let d : phase.Gone ≡ phase.Over = sym gone ∙ e in cc;
      fresh = λ e. absurd (let d : phase.Gone ≡ phase.Before = sym gone ∙ e in cc);
      steady = λ e. absurd (let d : false ≡ true = ap is_up (sym gone) ∙ e in cc);
    }

pub sound_down : (end end' : State) → end.settings ≡ end.tracker.settings → IsWithinLimits end.settings → end.framer.max ≡ end.settings.max → end' ≡ after_event end Down → IsSound end'
sound_down end end' settings within limit is =
    subst IsSound (sym is) (sound_gone (after_event end Down) settings within limit (down_phase end.tracker.phase))

pub up_is_not_before : (p : Phase) → is_up p ≡ true → p ≡ phase.Before → ⊥
up_is_not_before p up e = let d : false ≡ true = ap is_up (sym e) ∙ up in cc

pub up_is_not_over : (p : Phase) → is_up p ≡ true → p ≡ phase.Over → ⊥
up_is_not_over p up e = let d : false ≡ true = ap is_up (sym e) ∙ up in cc

-- ---- a connection that is established

no_time : (limit now : ℕ) → nat_lt limit (now - now) ≡ false
no_time limit now = grind (arith, nat_tests)

module _ (end : State) (before : end.tracker.phase ≡ phase.Before) (fresh : IsFresh end.tracker) where
  up_never : (rule : Rule) → Breaks (facts_of end.tracker) end.tracker.settings (entry_of end Up) rule → ⊥
  up_never Backwards b = let e : end.tracker.last_time ≡ 0 = fresh.time in absurd (omega arith)
  up_never NotUp b = b.0 before
  up_never Ended b = let d : false ≡ true = b.0 in cc
  up_never T3Overdue b =
      let d : false ≡ true = sym (ap (λ (xs : List Transaction). list_any (λ opened. nat_lt end.tracker.settings.t3 (end.moment - opened.time)) xs) fresh.sent_data) ∙ b.1.1 in cc
  up_never LinkOverdue b = elim b.1 [
    | inl p ↦ let d : false ≡ true = sym (ap (λ (xs : List Transaction). list_any (λ opened. nat_lt end.tracker.settings.t6 (end.moment - opened.time)) xs) fresh.sent_control) ∙ p.1 in cc
    | inr p ↦ let d : false ≡ true = sym (ap (λ (p : Phase). is_connected p && nat_lt end.tracker.settings.t7 (end.moment - end.tracker.up_time)) before) ∙ p.2 in cc
  ]
  up_never NotDue b = b
  up_never NoCause b = b
  up_never rule b = b

  pub up_valid : IsValidEvent end Up
  unfolding IsValidEvent
  up_valid = none_of (Breaks (facts_of end.tracker) end.tracker.settings (entry_of end Up)) all_rules up_never

  pub up_phase : phase_after end.tracker.phase Up ≡ phase.NotSelected
  up_phase = ap (λ (p : Phase). phase_after p Up) before

  pub up_steady : IsSteady (after_event end Up)
  up_steady =
      record {
        calm = record {
          not_past = omega arith;
          data_in_time = refl;
          control_in_time = refl;
          selected_in_time = ap (λ (p : Phase). is_unselected p && nat_lt end.tracker.settings.t7 (end.moment - end.moment)) up_phase ∙ no_time end.tracker.settings.t7 end.moment;
        };
        taken_data = refl;
        taken_control = refl;
        few = omega arith;
        unselected = λ e. refl;
      }

  pub up_none : own_open_of (after_event end Up).tracker ≡ 0
  up_none = refl

  pub up_sound : end.settings ≡ end.tracker.settings → IsWithinLimits end.settings → end.framer.max ≡ end.settings.max → IsSound (after_event end Up)
  up_sound settings within limit =
      record {
        settings = settings;
        within = within;
        limit = limit;
        not_over = λ e. let d : phase.NotSelected ≡ phase.Over = sym up_phase ∙ e in cc;
        fresh = λ e. absurd (let d : phase.NotSelected ≡ phase.Before = sym up_phase ∙ e in cc);
        steady = λ e. up_steady;
      }

-- ---- a frame that is sent

pub kept_phase : (p : Phase) (ends selects : Bool) → is_up p ≡ true → ends ≡ false → selects ≡ false → phase_by (is_gone p || false) (is_over p || ends) (is_selected p || selects) ≡ p
kept_phase phase.Before ends selects up e s = absurd (let d : false ≡ true = up in cc)
kept_phase phase.NotSelected ends selects up e s = ap (λ b. phase_by false b selects) e ∙ ap (λ b. phase_by false false b) s
kept_phase phase.Selected ends selects up e s = ap (λ b. phase_by false b true) e
kept_phase phase.Over ends selects up e s = absurd (let d : false ≡ true = up in cc)
kept_phase phase.Gone ends selects up e s = absurd (let d : false ≡ true = up in cc)

pub or_first : (a b : Bool) → (a || b) ≡ false → a ≡ false
or_first true b e = e
or_first false b e = refl

pub or_second : (a b : Bool) → (a || b) ≡ false → b ≡ false
or_second true b e = absurd (let d : true ≡ false = e in cc)
or_second false b e = e

pub or_both : (a b : Bool) → a ≡ false → b ≡ false → (a || b) ≡ false
or_both a b e f = ap (λ x. x || b) e ∙ f

-- The transactions of a pool after sending a frame that may open one.
abbrev with_opened : (Header → Bool) → ℕ → Header → List Transaction → List Transaction
with_opened test now header opened =
    filter (λ (transaction : Transaction). not false) opened ++ option_to_list (opened_by test now header)

new_in_time : (limit now : ℕ) (header : Header) (opens : Bool) → list_any (λ (opened : Transaction). nat_lt limit (now - opened.time)) (option_to_list (if opens then Some (record { time = now; header = header }) else None)) ≡ false
new_in_time limit now header true = or_both _ false (no_time limit now) refl
new_in_time limit now header false = refl

in_time : (limit now : ℕ) (test : Header → Bool) (header : Header) (opened : List Transaction) → list_any (λ (opened : Transaction). nat_lt limit (now - opened.time)) opened ≡ false → list_any (λ (opened : Transaction). nat_lt limit (now - opened.time)) (with_opened test now header opened) ≡ false
in_time limit now test header [] e = new_in_time limit now header (test header)
in_time limit now test header (x ∷ xs) e =
    or_both (nat_lt limit (now - x.time)) _ (or_first _ _ e) (in_time limit now test header xs (or_second (nat_lt limit (now - x.time)) _ e))

abbrev one_if : Bool → ℕ
one_if b = if b then 1 else 0

new_count : (now : ℕ) (header : Header) (opens : Bool) → length {A = Transaction} (option_to_list (if opens then Some (record { time = now; header = header }) else None)) ≡ one_if opens
new_count now header true = refl
new_count now header false = refl

counted : (test : Header → Bool) (now : ℕ) (header : Header) (opened : List Transaction) → length (with_opened test now header opened) ≡ length opened + one_if (test header)
counted test now header [] = let e = new_count now header (test header) in omega arith
counted test now header (x ∷ xs) = let e = counted test now header xs in omega arith

none_opened : (test : Header → Bool) (now : ℕ) (header : Header) (opened : List Transaction) → opened ≡ [] → test header ≡ false → with_opened test now header opened ≡ []
none_opened test now header opened e t =
    ap (λ (xs : List Transaction). filter (λ (transaction : Transaction). not false) xs ++ option_to_list (opened_by test now header)) e
    ∙ ap (λ (b : Bool). option_to_list (if b then Some (record { time = now; header = header }) else None)) t

none_concluded : (header : Header) (taken : List Transaction) → taken ≡ [] → filter (λ (opened : Transaction). not (concludes opened.header header)) taken ++ [] ≡ []
none_concluded header taken e = ap (λ (xs : List Transaction). filter (λ (opened : Transaction). not (concludes opened.header header)) xs ++ []) e

-- The properties of a sent frame that preserve a steady endpoint.
pub record IsSteadySend (end : State) (frame : Frame) : Type 0 where
  pub stays : separates frame.header ≡ false
  pub no_selection : establishes frame.header ≡ false
  pub room : own_open_of end.tracker + one_if (is_data_request frame.header) + one_if (is_control_request frame.header) ≤ 64
  pub data_selected : (is_data_request frame.header ≡ false) ⊎ (end.tracker.phase ≡ phase.Selected)

module _ (end : State) (frame : Frame) (up : is_up end.tracker.phase ≡ true) (steady : IsSteady end) (send : IsSteadySend end frame) where
  pub sent_phase : phase_after end.tracker.phase (Sent frame) ≡ end.tracker.phase
  sent_phase = kept_phase end.tracker.phase (separates frame.header) (establishes frame.header) up send.stays send.no_selection

  pub sent_steady : IsSteady (after_event end (Sent frame))
  sent_steady =
      record {
        calm = record {
          not_past = omega arith;
          data_in_time = in_time end.tracker.settings.t3 end.moment is_data_request frame.header end.tracker.sent_data steady.calm.data_in_time;
          control_in_time = in_time end.tracker.settings.t6 end.moment is_control_request frame.header end.tracker.sent_control steady.calm.control_in_time;
          selected_in_time = ap (λ (p : Phase). is_unselected p && nat_lt end.tracker.settings.t7 (end.moment - end.tracker.up_time)) sent_phase ∙ steady.calm.selected_in_time;
        };
        taken_data = none_concluded frame.header end.tracker.taken_data steady.taken_data;
        taken_control = none_concluded frame.header end.tracker.taken_control steady.taken_control;
        few =
            (let e1 = counted is_data_request end.moment frame.header end.tracker.sent_data in
            let e2 = counted is_control_request end.moment frame.header end.tracker.sent_control in
            let e3 = send.room in
            omega arith);
        unselected = λ e. elim send.data_selected [
          | inl none ↦ none_opened is_data_request end.moment frame.header end.tracker.sent_data (steady.unselected (ap is_unselected (sym sent_phase) ∙ e)) none
          | inr selected ↦ absurd (let d : false ≡ true = ap is_unselected (sym (sent_phase ∙ selected)) ∙ e in cc)
        ];
      }

  pub sent_sound : end.settings ≡ end.tracker.settings → IsWithinLimits end.settings → end.framer.max ≡ end.settings.max → IsSound (after_event end (Sent frame))
  sent_sound settings within limit =
      record {
        settings = settings;
        within = within;
        limit = limit;
        not_over = λ e. up_is_not_over end.tracker.phase up (sym sent_phase ∙ e);
        fresh = λ e. absurd (up_is_not_before end.tracker.phase up (sym sent_phase ∙ e));
        steady = λ e. sent_steady;
      }

-- The next value for system bytes does not affect soundness.
pub renumbered : (end : State) (number : ℕ) → IsSound end → IsSound (record end { next = number })
renumbered end number sound =
    record {
      settings = sound.settings;
      within = sound.within;
      limit = sound.limit;
      not_over = sound.not_over;
      fresh = sound.fresh;
      steady = λ up.
          (let steady = sound.steady up in
          record {
            calm = record { not_past = steady.calm.not_past; data_in_time = steady.calm.data_in_time; control_in_time = steady.calm.control_in_time; selected_in_time = steady.calm.selected_in_time };
            taken_data = steady.taken_data;
            taken_control = steady.taken_control;
            few = steady.few;
            unselected = steady.unselected;
          });
    }
