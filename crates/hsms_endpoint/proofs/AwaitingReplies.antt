-- The answers that an endpoint owes its peer while it handles a frame.
use Rattle.std.proofs.Common.{◌≡◌, ℕ, ◌-◌, ◌≤◌, suc, Bool, true, false, ◌&&◌, ◌||◌, not, nat_lt, List, [], ◌∷◌, ◌++◌, length, filter, option_to_list, Option, None, Some, append-nil, refl, sym, ap, subst, ◌∙◌, arith, if◌then◌else◌}
use Rattle.std.specs.List.{list_any}
use Rattle.hsms_frame.specs.declared.header.Header.{Header}
use Rattle.hsms_frame.specs.Frame.{Frame}
use Rattle.hsms_machine.specs.declared.entry.Event.{Event}
use Rattle.hsms_machine.specs.declared.entry.Event.TheVariants.{Sent, Taken, Discarded}
use Rattle.hsms_machine.specs.declared.phase.Phase.{Phase}
use Rattle.hsms_machine.specs.declared.phase.Phase.TheVariants as phase
use Rattle.hsms_machine.specs.declared.open_transactions.Transaction.{Transaction}
use Rattle.hsms_machine.specs.Entry.{is_up as is_up_event, is_down}
use Rattle.hsms_machine.specs.Message.{is_data_request, is_control_request, separates}
use Rattle.hsms_machine.specs.Session.{selects, ends_session}
use Rattle.hsms_machine.specs.Transaction.{SentData, SentControl, TakenData, TakenControl, concludes, opened_as_at, opened_by}
use Rattle.hsms_machine.specs.View.{phase_by}
use Rattle.hsms_machine.specs.ViewRules.{phase_after, pool_after, is_gone, is_over, is_selected, is_closed_by}
use Rattle.hsms_endpoint.specs.declared.state.State.{State}
use Rattle.hsms_endpoint.specs.InnerInternals.{entry_of, after_event}
use Rattle.hsms_machine.specs.declared.entry.Entry.{Entry}
use Rattle.hsms_machine.specs.View.{HasView}
use Rattle.hsms_endpoint.specs.InnerActionSteps.{Performs}
use Rattle.hsms_endpoint.specs.Turn.{is_up, is_unselected}
use Rattle.hsms_endpoint.specs.Invariant.{IsSound}
use Rattle.hsms_endpoint.specs.InnerAwaitingReply.{PeerAwaits, IsMild}
use Rattle.hsms_endpoint.proofs.Steadiness.{or_first, or_second, or_both, up_is_not_before, up_is_not_over}

-- ---- the phase

up_either : (selected : Bool) → is_up (phase_by false false selected) ≡ true
up_either true = refl
up_either false = refl

stays_up : (p : Phase) (selected : Bool) → is_up p ≡ true → is_up (phase_by (is_gone p || false) (is_over p || false) (is_selected p || selected)) ≡ true
stays_up phase.Before selected up = absurd (let d : false ≡ true = up in cc)
stays_up phase.NotSelected selected up = up_either selected
stays_up phase.Selected selected up = refl
stays_up phase.Over selected up = absurd (let d : false ≡ true = up in cc)
stays_up phase.Gone selected up = absurd (let d : false ≡ true = up in cc)

was_unselected : (p : Phase) (selected : Bool) → is_up p ≡ true → is_unselected (phase_by (is_gone p || false) (is_over p || false) (is_selected p || selected)) ≡ true → is_unselected p ≡ true
was_unselected phase.Before selected up u = absurd (let d : false ≡ true = up in cc)
was_unselected phase.NotSelected selected up u = refl
was_unselected phase.Selected selected up u = u
was_unselected phase.Over selected up u = absurd (let d : false ≡ true = up in cc)
was_unselected phase.Gone selected up u = absurd (let d : false ≡ true = up in cc)

and_false : (a b late : Bool) → (a ≡ true → b ≡ true) → (b && late) ≡ false → (a && late) ≡ false
and_false true b late h e = sym (ap (λ x. x && late) (h refl)) ∙ e
and_false false b late h e = refl

-- ---- the transactions that remain

pick_in_time : (late : Transaction → Bool) (b : Bool) (x : Transaction) (ys : List Transaction) → late x ≡ false → list_any late (ys ++ []) ≡ false → list_any late ((if b then x ∷ ys else ys) ++ []) ≡ false
pick_in_time late true x ys e f = or_both (late x) _ e f
pick_in_time late false x ys e f = f

stays_in_time : (late stays : Transaction → Bool) (xs : List Transaction) → list_any late xs ≡ false → list_any late (filter stays xs ++ []) ≡ false
stays_in_time late stays [] e = refl
stays_in_time late stays (x ∷ xs) e =
    pick_in_time late (stays x) x (filter stays xs) (or_first (late x) _ e) (stays_in_time late stays xs (or_second (late x) _ e))

pick_fewer : (b : Bool) (x : Transaction) (ys : List Transaction) (n : ℕ) → length (ys ++ []) ≤ n → length ((if b then x ∷ ys else ys) ++ []) ≤ suc n
pick_fewer true x ys n h = omega arith
pick_fewer false x ys n h = omega arith

fewer : (stays : Transaction → Bool) (xs : List Transaction) → length (filter stays xs ++ []) ≤ length xs
fewer stays [] = omega arith
fewer stays (x ∷ xs) = pick_fewer (stays x) x (filter stays xs) (length xs) (fewer stays xs)

-- ---- one mild event

module _ (end : State) (event : Event) (primaries controls : List Transaction) (awaits : PeerAwaits end primaries controls) (mild : IsMild end.moment event) where
  phase_is : phase_after end.tracker.phase event ≡ phase_by (is_gone end.tracker.phase || false) (is_over end.tracker.phase || false) (is_selected end.tracker.phase || selects event)
  phase_is =
      ap (λ b. if b then phase.NotSelected else phase_by (is_gone end.tracker.phase || is_down event) (is_over end.tracker.phase || ends_session event) (is_selected end.tracker.phase || selects event)) mild.not_up
      ∙ ap (λ b. phase_by (is_gone end.tracker.phase || b) (is_over end.tracker.phase || ends_session event) (is_selected end.tracker.phase || selects event)) mild.not_down
      ∙ ap (λ b. phase_by (is_gone end.tracker.phase || false) (is_over end.tracker.phase || b) (is_selected end.tracker.phase || selects event)) mild.can_continue

  still_unselected : is_unselected (phase_after end.tracker.phase event) ≡ true → is_unselected end.tracker.phase ≡ true
  still_unselected u = was_unselected end.tracker.phase (selects event) awaits.up (sym (ap is_unselected phase_is) ∙ u)

  kept : (left : List Transaction) → (if is_up_event event then [] else left) ≡ left
  kept left = ap (λ b. if b then [] else left) mild.not_up

  data_is : pool_after SentData end.tracker.sent_data (entry_of end event) ≡ filter (λ transaction. not (is_closed_by SentData event transaction)) end.tracker.sent_data ++ []
  data_is =
      kept (filter (λ transaction. not (is_closed_by SentData event transaction)) end.tracker.sent_data ++ option_to_list (opened_as_at SentData end.moment event))
      ∙ ap (λ (o : Option Transaction). filter (λ transaction. not (is_closed_by SentData event transaction)) end.tracker.sent_data ++ option_to_list o) mild.no_data

  control_is : pool_after SentControl end.tracker.sent_control (entry_of end event) ≡ filter (λ transaction. not (is_closed_by SentControl event transaction)) end.tracker.sent_control ++ []
  control_is =
      kept (filter (λ transaction. not (is_closed_by SentControl event transaction)) end.tracker.sent_control ++ option_to_list (opened_as_at SentControl end.moment event))
      ∙ ap (λ (o : Option Transaction). filter (λ transaction. not (is_closed_by SentControl event transaction)) end.tracker.sent_control ++ option_to_list o) mild.no_control

  pub awaits_after : PeerAwaits (after_event end event) (filter (λ transaction. not (is_closed_by TakenData event transaction)) primaries ++ option_to_list (opened_as_at TakenData end.moment event)) (filter (λ transaction. not (is_closed_by TakenControl event transaction)) controls ++ option_to_list (opened_as_at TakenControl end.moment event))
  awaits_after =
      record {
        settings = awaits.settings;
        within = awaits.within;
        limit = awaits.limit;
        up = ap is_up phase_is ∙ stays_up end.tracker.phase (selects event) awaits.up;
        calm = record {
          not_past = omega arith;
          data_in_time = ap (λ (xs : List Transaction). list_any (λ (opened : Transaction). nat_lt end.tracker.settings.t3 (end.moment - opened.time)) xs) data_is
              ∙ stays_in_time (λ (opened : Transaction). nat_lt end.tracker.settings.t3 (end.moment - opened.time)) (λ transaction. not (is_closed_by SentData event transaction)) end.tracker.sent_data awaits.calm.data_in_time;
          control_in_time = ap (λ (xs : List Transaction). list_any (λ (opened : Transaction). nat_lt end.tracker.settings.t6 (end.moment - opened.time)) xs) control_is
              ∙ stays_in_time (λ (opened : Transaction). nat_lt end.tracker.settings.t6 (end.moment - opened.time)) (λ transaction. not (is_closed_by SentControl event transaction)) end.tracker.sent_control awaits.calm.control_in_time;
          selected_in_time =
              ap (λ (b : Bool). is_unselected (phase_after end.tracker.phase event) && nat_lt end.tracker.settings.t7 (end.moment - (if b then end.moment else end.tracker.up_time))) mild.not_up
              ∙ and_false (is_unselected (phase_after end.tracker.phase event)) (is_unselected end.tracker.phase) (nat_lt end.tracker.settings.t7 (end.moment - end.tracker.up_time)) still_unselected awaits.calm.selected_in_time;
        };
        taken_data =
            kept (filter (λ transaction. not (is_closed_by TakenData event transaction)) end.tracker.taken_data ++ option_to_list (opened_as_at TakenData end.moment event))
            ∙ ap (λ (xs : List Transaction). filter (λ transaction. not (is_closed_by TakenData event transaction)) xs ++ option_to_list (opened_as_at TakenData end.moment event)) awaits.taken_data;
        taken_control =
            kept (filter (λ transaction. not (is_closed_by TakenControl event transaction)) end.tracker.taken_control ++ option_to_list (opened_as_at TakenControl end.moment event))
            ∙ ap (λ (xs : List Transaction). filter (λ transaction. not (is_closed_by TakenControl event transaction)) xs ++ option_to_list (opened_as_at TakenControl end.moment event)) awaits.taken_control;
        few =
            (let e1 = ap (λ (xs : List Transaction). length xs) data_is in
            let e2 = ap (λ (xs : List Transaction). length xs) control_is in
            let f1 = fewer (λ transaction. not (is_closed_by SentData event transaction)) end.tracker.sent_data in
            let f2 = fewer (λ transaction. not (is_closed_by SentControl event transaction)) end.tracker.sent_control in
            let h = awaits.few in
            omega arith);
        unselected = λ u. data_is ∙ ap (λ (xs : List Transaction). filter (λ transaction. not (is_closed_by SentData event transaction)) xs ++ []) (awaits.unselected (still_unselected u));
      }

-- ---- between calls

pub sound_awaits : (end : State) → IsSound end → is_up end.tracker.phase ≡ true → PeerAwaits end [] []
sound_awaits end sound up =
    let steady = sound.steady up in
    record {
      settings = sound.settings;
      within = sound.within;
      limit = sound.limit;
      up = up;
      calm = steady.calm;
      taken_data = steady.taken_data;
      taken_control = steady.taken_control;
      few = steady.few;
      unselected = steady.unselected;
    }

-- Between calls the peer has no open transactions. An endpoint that owes no answer satisfies the invariant between
-- calls.
pub peers_transactions_are_none_between_calls : (end : State) → PeerAwaits end [] [] → IsSound end
peers_transactions_are_none_between_calls end awaits =
    record {
      settings = awaits.settings;
      within = awaits.within;
      limit = awaits.limit;
      not_over = up_is_not_over end.tracker.phase awaits.up;
      fresh = λ e. absurd (up_is_not_before end.tracker.phase awaits.up e);
      steady = λ up. record { calm = awaits.calm; taken_data = awaits.taken_data; taken_control = awaits.taken_control; few = awaits.few; unselected = awaits.unselected };
    }

-- The next value for system bytes does not affect it.
pub awaits_numbered : (end : State) (number : ℕ) (primaries controls : List Transaction) → PeerAwaits end primaries controls → PeerAwaits (record end { next = number }) primaries controls
awaits_numbered end number primaries controls awaits =
    record {
      settings = awaits.settings;
      within = awaits.within;
      limit = awaits.limit;
      up = awaits.up;
      calm = record { not_past = awaits.calm.not_past; data_in_time = awaits.calm.data_in_time; control_in_time = awaits.calm.control_in_time; selected_in_time = awaits.calm.selected_in_time };
      taken_data = awaits.taken_data;
      taken_control = awaits.taken_control;
      few = awaits.few;
      unselected = awaits.unselected;
    }

-- ---- frames

none_if : (test : Header → Bool) (now : ℕ) (header : Header) → test header ≡ false → opened_by test now header ≡ None
none_if test now header e = ap (λ (b : Bool). if b then Some (record { time = now; header = header }) else None) e

taken_mild : (moment : ℕ) (frame : Frame) → separates frame.header ≡ false → IsMild moment (Taken frame)
taken_mild moment frame stays = record { not_up = refl; not_down = refl; can_continue = stays; no_data = refl; no_control = refl }

discarded_mild : (moment : ℕ) (frame : Frame) → IsMild moment (Discarded frame)
discarded_mild moment frame = record { not_up = refl; not_down = refl; can_continue = refl; no_data = refl; no_control = refl }

-- The properties of a header that opens nothing and ends nothing.
pub record IsQuiet (header : Header) : Type 0 where
  pub stays : separates header ≡ false
  pub no_data : is_data_request header ≡ false
  pub no_control : is_control_request header ≡ false

sent_mild : (moment : ℕ) (frame : Frame) → IsQuiet frame.header → IsMild moment (Sent frame)
sent_mild moment frame quiet =
    record {
      not_up = refl;
      not_down = refl;
      can_continue = quiet.stays;
      no_data = none_if is_data_request moment frame.header quiet.no_data;
      no_control = none_if is_control_request moment frame.header quiet.no_control;
    }

-- After an accepted frame the peer waits for an answer to it, if it is a request, and for nothing else.
pub taken_awaits : (end : State) (frame : Frame) → PeerAwaits end [] [] → separates frame.header ≡ false → PeerAwaits (after_event end (Taken frame)) (option_to_list (opened_by is_data_request end.moment frame.header)) (option_to_list (opened_by is_control_request end.moment frame.header))
taken_awaits end frame awaits stays = awaits_after end (Taken frame) [] [] awaits (taken_mild end.moment frame stays)

pub discarded_awaits : (end : State) (frame : Frame) → PeerAwaits end [] [] → PeerAwaits (after_event end (Discarded frame)) [] []
discarded_awaits end frame awaits = awaits_after end (Discarded frame) [] [] awaits (discarded_mild end.moment frame)

abbrev pub left_by : Header → List Transaction → List Transaction
left_by header opened = filter (λ (transaction : Transaction). not (concludes transaction.header header)) opened ++ []

pub sent_awaits : (end : State) (frame : Frame) (primaries controls : List Transaction) → PeerAwaits end primaries controls → IsQuiet frame.header → PeerAwaits (after_event end (Sent frame)) (left_by frame.header primaries) (left_by frame.header controls)
sent_awaits end frame primaries controls awaits quiet = awaits_after end (Sent frame) primaries controls awaits (sent_mild end.moment frame quiet)

-- Nothing is done.
pub does_nothing : (end : State) (before : List Entry) → Performs end before [] end before
does_nothing end before =
    record {
      new = [];
      added = sym (append-nil before);
      done = (refl, refl);
      run = λ log has. subst (λ es. HasView end.tracker.settings es end.tracker) (sym (append-nil log)) has;
    }

-- The answers that the endpoint owes are those of its tracker.
pub awaits_own : (end : State) (primaries controls : List Transaction) → PeerAwaits end primaries controls → PeerAwaits end end.tracker.taken_data end.tracker.taken_control
awaits_own end primaries controls awaits =
    subst (λ xs. PeerAwaits end end.tracker.taken_data xs) (sym awaits.taken_control) (subst (λ xs. PeerAwaits end xs controls) (sym awaits.taken_data) awaits)
