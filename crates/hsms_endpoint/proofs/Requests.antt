-- The own requests of a sound endpoint: they are valid, and it remains sound.
use Rattle.std.proofs.Common.{◌≡◌, ℕ, ◌+◌, ◌<◌, ◌%◌, ◌^◌, true, false, refl, sym, ap, subst, ◌∙◌, inl, arith, Option, Some, None}
use Rattle.hsms_frame.specs.Frame.{Frame}
use Rattle.hsms_machine.specs.declared.entry.Event.TheVariants.{Up, Sent, Taken, Discarded, Cut, Down}
use Rattle.hsms_machine.specs.declared.entry.Cause.{Cause}
use Rattle.hsms_machine.specs.declared.entry.Cause.TheVariants.{Length}
use Rattle.hsms_machine.specs.declared.phase.Phase.{Phase}
use Rattle.hsms_machine.specs.declared.phase.Phase.TheVariants as phase
use Rattle.hsms_machine.specs.declared.settings.Side.TheVariants.{Active}
use Rattle.hsms_machine.specs.Settings.{Parameters, IsWithinLimits}
use Rattle.hsms_machine.specs.Message.{is_data_request, is_control_request, establishes, separates}
use Rattle.hsms_machine.specs.View.{own_open_of}
use Rattle.hsms_machine.specs.declared.rule.Rule.{Rule}
use Rattle.hsms_machine.specs.Rule.{Breaks, IsFirst, all_rules}
use Rattle.hsms_machine.specs.ViewRules.{phase_after, facts_of}
use Rattle.hsms_endpoint.specs.declared.state.State.{State}
use Rattle.hsms_endpoint.specs.SystemBytes.{IsFree}
use Rattle.hsms_endpoint.specs.Frame.{select_req, linktest_req, separate_req}
use Rattle.hsms_endpoint.specs.InnerInternals.{after_event, after_number}
use Rattle.hsms_endpoint.specs.Turn.{is_up, BreaksAsTaken}
use Rattle.hsms_endpoint.specs.Fault.{is_before}
use Rattle.hsms_endpoint.specs.InnerActionSteps.{IsValidEvent}
use Rattle.hsms_endpoint.specs.Invariant.{IsSound}
use Rattle.hsms_endpoint.specs.InnerInvariant.{CanCut}
use Rattle.hsms_endpoint.proofs.ValidOutputs.{sent_valid, down_valid, down_over_valid, cut_valid, taken_broken, discarded_valid}
use Rattle.hsms_endpoint.proofs.OwnFrames.{select_req_fine, linktest_req_fine, separate_req_fine}
use Rattle.hsms_endpoint.proofs.Steadiness.{IsSteadySend, sent_sound, sound_down, renumbered, up_valid, up_phase, up_sound, up_none}

over_after : (p : Phase) (number : ℕ) → is_up p ≡ true → phase_after p (Sent (separate_req number)) ≡ phase.Over
unfolding separates establishes
over_after phase.Before number up = absurd (let d : false ≡ true = up in cc)
over_after phase.NotSelected number up = refl
over_after phase.Selected number up = refl
over_after phase.Over number up = absurd (let d : false ≡ true = up in cc)
over_after phase.Gone number up = absurd (let d : false ≡ true = up in cc)

module _ (end : State) (sound : IsSound end) (up : is_up end.tracker.phase ≡ true) where
  limits : IsWithinLimits end.tracker.settings
  limits = subst IsWithinLimits sound.settings sound.within

  pub lost_valid : IsValidEvent end Down
  lost_valid = down_valid end up (sound.steady up).calm

  pub select_valid : (number : ℕ) → end.settings.link ≡ Active → IsFree end.tracker number → IsValidEvent end (Sent (select_req number))
  select_valid number active free =
      sent_valid end up (sound.steady up).calm (select_req number) (select_req_fine end.tracker limits number (ap (λ (s : Parameters). s.link) (sym sound.settings) ∙ active) free)

  pub linktest_valid : (number : ℕ) → IsFree end.tracker number → IsValidEvent end (Sent (linktest_req number))
  linktest_valid number free = sent_valid end up (sound.steady up).calm (linktest_req number) (linktest_req_fine end.tracker limits number free)

  pub separate_valid : (number : ℕ) → IsValidEvent end (Sent (separate_req number))
  separate_valid number = sent_valid end up (sound.steady up).calm (separate_req number) (separate_req_fine end.tracker limits number)

  select_send : (number : ℕ) → own_open_of end.tracker < 64 → IsFree end.tracker number → IsSteadySend end (select_req number)
  unfolding is_data_request is_control_request establishes separates
  select_send number room free = record { stays = refl; no_selection = refl; room = omega arith; data_selected = inl refl }

  linktest_send : (number : ℕ) → own_open_of end.tracker < 64 → IsFree end.tracker number → IsSteadySend end (linktest_req number)
  unfolding is_data_request is_control_request establishes separates
  linktest_send number room free = record { stays = refl; no_selection = refl; room = omega arith; data_selected = inl refl }

  pub select_sound : (number : ℕ) → own_open_of end.tracker < 64 → IsFree end.tracker number → IsSound (after_number end (select_req number) number)
  select_sound number room free =
      renumbered (after_event end (Sent (select_req number))) ((number + 1) % 2 ^ 32)
      (sent_sound end (select_req number) up (sound.steady up) (select_send number room free) sound.settings sound.within sound.limit)

  pub linktest_sound : (number : ℕ) → own_open_of end.tracker < 64 → IsFree end.tracker number → IsSound (after_number end (linktest_req number) number)
  linktest_sound number room free =
      renumbered (after_event end (Sent (linktest_req number))) ((number + 1) % 2 ^ 32)
      (sent_sound end (linktest_req number) up (sound.steady up) (linktest_send number room free) sound.settings sound.within sound.limit)

  pub separated_down_valid : (end' : State) (number : ℕ) → end' ≡ after_number end (separate_req number) number → IsValidEvent end' Down
  separated_down_valid end' number is =
      subst (λ (s : State). IsValidEvent s Down) (sym is) (down_over_valid (after_number end (separate_req number) number) (over_after end.tracker.phase number up) (omega arith))

  pub separated_sound : (end' end'' : State) (number : ℕ) → end' ≡ after_number end (separate_req number) number → end'' ≡ after_event end' Down → IsSound end''
  separated_sound end' end'' number is down =
      sound_down (after_number end (separate_req number) number) end'' sound.settings sound.within sound.limit (down ∙ ap (λ (s : State). after_event s Down) is)

-- ---- an endpoint that is cut

cut_phase : (p : Phase) (cause : Cause) → is_up p ≡ true → phase_after p (Cut cause) ≡ phase.Over
cut_phase phase.Before cause up = absurd (let d : false ≡ true = up in cc)
cut_phase phase.NotSelected cause up = refl
cut_phase phase.Selected cause up = refl
cut_phase phase.Over cause up = absurd (let d : false ≡ true = up in cc)
cut_phase phase.Gone cause up = absurd (let d : false ≡ true = up in cc)

pub cut_down_valid : (end : State) (cause : Cause) → is_up end.tracker.phase ≡ true → (end' : State) → end' ≡ after_event end (Cut cause) → IsValidEvent end' Down
cut_down_valid end cause up end' is =
    subst (λ (s : State). IsValidEvent s Down) (sym is) (down_over_valid (after_event end (Cut cause)) (cut_phase end.tracker.phase cause up) (omega arith))

-- Bytes may be invalid.
pub can_cut : (end : State) → IsSound end → is_up end.tracker.phase ≡ true → CanCut end Length
can_cut end sound up =
    record { settings = sound.settings; within = sound.within; limit = sound.limit; up = up; is_valid = cut_valid end up (sound.steady up).calm }

-- ---- a frame that is received

module _ (end : State) (sound : IsSound end) (up : is_up end.tracker.phase ≡ true) where
  pub frame_broken : (frame : Frame) (answer : Option Rule) → IsFirst (Breaks (facts_of end.tracker) end.tracker.settings (record { time = end.moment; event = Taken frame })) all_rules answer → BreaksAsTaken end.tracker frame answer
  frame_broken frame answer input_event = taken_broken end up (sound.steady up).calm frame answer input_event

  pub frame_taken : (frame : Frame) → IsFirst (Breaks (facts_of end.tracker) end.tracker.settings (record { time = end.moment; event = Taken frame })) all_rules None → IsValidEvent end (Taken frame)
  unfolding IsValidEvent
  frame_taken frame input_event = input_event

  pub frame_discarded : (frame : Frame) (rule : Rule) → IsFirst (Breaks (facts_of end.tracker) end.tracker.settings (record { time = end.moment; event = Taken frame })) all_rules (Some rule) → IsValidEvent end (Discarded frame)
  frame_discarded frame rule input_event = discarded_valid end up (sound.steady up).calm frame rule (frame_broken frame (Some rule) input_event)

-- ---- an endpoint that starts

pub is_before_phase : (p : Phase) → is_before p ≡ true → p ≡ phase.Before
is_before_phase phase.Before e = refl
is_before_phase phase.NotSelected e = absurd (let d : false ≡ true = e in cc)
is_before_phase phase.Selected e = absurd (let d : false ≡ true = e in cc)
is_before_phase phase.Over e = absurd (let d : false ≡ true = e in cc)
is_before_phase phase.Gone e = absurd (let d : false ≡ true = e in cc)

abbrev pub at_moment : State → ℕ → State
at_moment end now = record end { moment = now }

module _ (end : State) (now : ℕ) (sound : IsSound end) (before : end.tracker.phase ≡ phase.Before) where
  pub start_valid : IsValidEvent (at_moment end now) Up
  start_valid = up_valid (at_moment end now) before (sound.fresh before)

  started : IsSound (after_event (at_moment end now) Up)
  started = up_sound (at_moment end now) before (sound.fresh before) sound.settings sound.within sound.limit

  pub started_sound : (end' : State) → end' ≡ after_event (at_moment end now) Up → IsSound end'
  started_sound end' is = subst IsSound (sym is) started

  pub started_up : (end' : State) → end' ≡ after_event (at_moment end now) Up → is_up end'.tracker.phase ≡ true
  started_up end' is = ap (λ (s : State). is_up s.tracker.phase) is ∙ ap is_up (up_phase (at_moment end now) before (sound.fresh before))

  pub started_room : (end' : State) → end' ≡ after_event (at_moment end now) Up → own_open_of end'.tracker < 64
  started_room end' is =
      let e : own_open_of end'.tracker ≡ own_open_of (after_event (at_moment end now) Up).tracker = ap (λ (s : State). own_open_of s.tracker) is in
      let none : own_open_of (after_event (at_moment end now) Up).tracker ≡ 0 = up_none (at_moment end now) before (sound.fresh before) in
      omega arith

  pub started_settings : (end' : State) → end' ≡ after_event (at_moment end now) Up → end'.settings ≡ end.settings
  started_settings end' is = ap (λ (s : State). s.settings) is
