-- Overdue own data, logged one after the other.
use Rattle.std.proofs.Common.{◌≡◌, ℕ, ◌+◌, ◌-◌, ◌<◌, ◌≤◌, ◌==◌, Bool, true, false, ◌&&◌, ◌||◌, not, nat_lt, nat_le, List, [], ◌∷◌, ◌++◌, length, map, filter, Option, None, Some, refl, sym, ap, subst, ◌∙◌, inl, inr, arith, if◌then◌else◌, append-nil, append_assoc}
use Rattle.std.specs.List.{list_any}
use Rattle.std.proofs.lemmas.Bool.Decides.{nat_tests}
use Rattle.std.proofs.lemmas.List.{map-append}
use Rattle.hsms_frame.specs.declared.header.Header.{Header}
use Rattle.hsms_machine.specs.declared.entry.Entry.{Entry}
use Rattle.hsms_machine.specs.declared.entry.Event.TheVariants.{T3}
use Rattle.hsms_machine.specs.declared.phase.Phase.{Phase}
use Rattle.hsms_machine.specs.declared.phase.Phase.TheVariants as phase
use Rattle.hsms_machine.specs.declared.rule.Rule.{Rule}
use Rattle.hsms_machine.specs.declared.rule.Rule.TheVariants.{Backwards, NotUp, Ended, T3Overdue, LinkOverdue, NotDue, NoCause}
use Rattle.hsms_machine.specs.declared.open_transactions.Transaction.{Transaction}
use Rattle.hsms_machine.specs.declared.view.View.{View}
use Rattle.hsms_machine.specs.Settings.{Parameters}
use Rattle.hsms_machine.specs.Rule.{Breaks, all_rules}
use Rattle.hsms_machine.specs.View.{HasView, oldest_of}
use Rattle.hsms_machine.specs.ViewRules.{facts_of, phase_after, view_after}
use Rattle.hsms_endpoint.specs.declared.state.State.{State}
use Rattle.hsms_endpoint.specs.Action.{Act, logs}
use Rattle.hsms_endpoint.specs.InnerInternals.{entry_of, after_event}
use Rattle.hsms_machine.specs.OpeningOrder.{IsOrdered}
use Rattle.hsms_endpoint.specs.Turn.{is_up, expired_at, expiry}
use Rattle.hsms_endpoint.specs.InnerActionSteps.{IsValidEvent, Performs}
use Rattle.hsms_endpoint.specs.InnerExpiring.{IsLate, is_data_overdue, overdue_of, with_data, headers_of, HasExpired}
use Rattle.hsms_endpoint.proofs.Acts.{does_then}
use Rattle.hsms_endpoint.proofs.ValidOutputs.{none_of}
use Rattle.hsms_endpoint.proofs.Steadiness.{up_is_not_before, up_is_not_over}
use Rattle.hsms_endpoint.proofs.Ordering.{as_it_was, first_removed, all_in_time, none_picked, first_picked}

-- ---- the first transaction

-- The transaction that was opened first is overdue.
pub record IsOverdueFirst (limit moment : ℕ) (opened : List Transaction) (header : Header) : Type 0 where
  pub first : Transaction
  pub later : List Transaction
  pub opened_are : opened ≡ first ∷ later
  pub header_is : header ≡ first.header
  pub overdue : nat_lt limit (moment - first.time) ≡ true

found_if : (limit moment : ℕ) (x : Transaction) (xs : List Transaction) (header : Header) (b : Bool) → nat_lt limit (moment - x.time) ≡ b → (if b then Some x.header else None) ≡ Some header → IsOverdueFirst limit moment (x ∷ xs) header
found_if limit moment x xs header true is e =
    record { first = x; later = xs; opened_are = refl; header_is = (let d : ◌≡◌ {A = Option Header} (Some x.header) (Some header) = e in cc); overdue = is }
found_if limit moment x xs header false is e = absurd (let d : ◌≡◌ {A = Option Header} None (Some header) = e in cc)

pub found_overdue : (limit moment : ℕ) (opened : List Transaction) (header : Header) → overdue_of limit moment (oldest_of opened) ≡ Some header → IsOverdueFirst limit moment opened header
found_overdue limit moment [] header e = absurd (let d : ◌≡◌ {A = Option Header} None (Some header) = e in cc)
found_overdue limit moment (x ∷ xs) header e = found_if limit moment x xs header (nat_lt limit (moment - x.time)) refl e

in_time_if : (header : Header) (b : Bool) → ◌≡◌ {A = Option Header} (if b then Some header else None) None → b ≡ false
in_time_if header true e = absurd (let d : ◌≡◌ {A = Option Header} (Some header) None = e in cc)
in_time_if header false e = refl

pub none_overdue : (limit moment : ℕ) (opened : List Transaction) → IsOrdered moment opened → overdue_of limit moment (oldest_of opened) ≡ None → list_any (λ (transaction : Transaction). nat_lt limit (moment - transaction.time)) opened ≡ false
none_overdue limit moment [] h e = refl
none_overdue limit moment (x ∷ xs) h e = all_in_time limit moment moment x xs h (in_time_if x.header (nat_lt limit (moment - x.time)) e)

-- ---- the entry of an expiry

and_true : (a b : Bool) → a ≡ true → b ≡ true → (a && b) ≡ true
and_true a b e f = ap (λ x. x && b) e ∙ f

or_true : (a b : Bool) → a ≡ true → (a || b) ≡ true
or_true a b e = ap (λ x. x || b) e

same_system : (n : ℕ) → (n == n) ≡ true
same_system n = grind (arith, nat_tests)

lt_le : (a b : ℕ) → nat_lt a b ≡ true → nat_le a b ≡ true
lt_le a b e = grind (arith, nat_tests)

up_not_gone : (p : Phase) → is_up p ≡ true → p ≡ phase.Gone → ⊥
up_not_gone p up e = let d : false ≡ true = ap is_up (sym e) ∙ up in cc

t3_phase : (p : Phase) (system : ℕ) → is_up p ≡ true → phase_after p (T3 system) ≡ p
t3_phase phase.Before system up = absurd (let d : false ≡ true = up in cc)
t3_phase phase.NotSelected system up = refl
t3_phase phase.Selected system up = refl
t3_phase phase.Over system up = absurd (let d : false ≡ true = up in cc)
t3_phase phase.Gone system up = absurd (let d : false ≡ true = up in cc)

t3_view : (view : View) (time system : ℕ) (left : List Transaction) → is_up view.phase ≡ true → filter (λ (opened : Transaction). not (opened.header.system == system)) view.sent_data ++ [] ≡ left → view_after view (record { time = time; event = T3 system }) ≡ record view { last_time = time; sent_data = left }
t3_view view time system left up gone =
    let made : Phase → List Transaction → List Transaction → List Transaction → List Transaction → View = λ p own control taken_data taken_control.
    record { settings = view.settings; phase = p; up_time = view.up_time; last_time = time; sent_data = own; sent_control = control; taken_data = taken_data; taken_control = taken_control } in
    let none : List Transaction → List Transaction = λ xs. filter (λ (opened : Transaction). not false) xs ++ [] in
    let out : List Transaction = filter (λ (opened : Transaction). not (opened.header.system == system)) view.sent_data ++ [] in
    ap (λ p. made p out (none view.sent_control) (none view.taken_data) (none view.taken_control)) (t3_phase view.phase system up)
    ∙ ap (λ xs. made view.phase xs (none view.sent_control) (none view.taken_data) (none view.taken_control)) gone
    ∙ ap (λ xs. made view.phase left xs (none view.taken_data) (none view.taken_control)) (as_it_was view.sent_control)
    ∙ ap (λ xs. made view.phase left view.sent_control xs (none view.taken_control)) (as_it_was view.taken_data)
    ∙ ap (λ xs. made view.phase left view.sent_control view.taken_data xs) (as_it_was view.taken_control)

module _ (end : State) (late : IsLate end) (header : Header) (h : IsOverdueFirst end.tracker.settings.t3 end.moment end.tracker.sent_data header) where
  is_due : list_any (λ (opened : Transaction). (opened.header.system == header.system) && nat_le end.tracker.settings.t3 (end.moment - opened.time)) end.tracker.sent_data ≡ true
  is_due =
      ap (λ (xs : List Transaction). list_any (λ (opened : Transaction). (opened.header.system == header.system) && nat_le end.tracker.settings.t3 (end.moment - opened.time)) xs) h.opened_are
      ∙ or_true ((h.first.header.system == header.system) && nat_le end.tracker.settings.t3 (end.moment - h.first.time)) _
      (and_true (h.first.header.system == header.system) _
      (ap (λ (other : Header). h.first.header.system == other.system) h.header_is ∙ same_system h.first.header.system)
      (lt_le end.tracker.settings.t3 (end.moment - h.first.time) h.overdue))

  t3_never : (rule : Rule) → Breaks (facts_of end.tracker) end.tracker.settings (entry_of end (T3 header.system)) rule → ⊥
  t3_never Backwards b = let le : end.tracker.last_time ≤ end.moment = late.not_past in absurd (omega arith)
  t3_never NotUp b = elim b [ inl n ↦ n (up_is_not_before end.tracker.phase late.up) | inr g ↦ up_not_gone end.tracker.phase late.up g ]
  t3_never Ended b = up_is_not_over end.tracker.phase late.up b.1
  t3_never T3Overdue b = b.0 refl
  t3_never LinkOverdue b = b.0 refl
  t3_never NotDue b = b is_due
  t3_never NoCause b = b
  t3_never rule b = b

  pub t3_valid : IsValidEvent end (T3 header.system)
  unfolding IsValidEvent
  t3_valid = none_of (Breaks (facts_of end.tracker) end.tracker.settings (entry_of end (T3 header.system))) all_rules t3_never

  ordered : IsOrdered end.moment (h.first ∷ h.later)
  ordered = subst (IsOrdered end.moment) h.opened_are late.data_ordered

  gone : filter (λ (opened : Transaction). not (opened.header.system == header.system)) end.tracker.sent_data ++ [] ≡ h.later
  gone =
      ap (λ (other : Header). filter (λ (opened : Transaction). not (opened.header.system == other.system)) end.tracker.sent_data ++ []) h.header_is
      ∙ ap (λ (xs : List Transaction). filter (λ (opened : Transaction). not (opened.header.system == h.first.header.system)) xs ++ []) h.opened_are
      ∙ first_removed end.moment h.first h.later ordered

  pub t3_after : after_event end (T3 header.system) ≡ with_data end end.moment h.later
  t3_after = ap (λ (v : View). record end { tracker = v }) (t3_view end.tracker end.moment header.system h.later late.up gone)

  t3_late : IsLate (with_data end end.moment h.later)
  t3_late =
      record {
        settings = late.settings;
        within = late.within;
        limit = late.limit;
        up = late.up;
        not_past = omega arith;
        taken_data = late.taken_data;
        taken_control = late.taken_control;
        few =
            (let e : length end.tracker.sent_data ≡ length (h.first ∷ h.later) = ap length h.opened_are in
            let few : length end.tracker.sent_data + length end.tracker.sent_control ≤ 64 = late.few in
            omega arith);
        unselected = λ u. absurd (let d : ◌≡◌ {A = List Transaction} (h.first ∷ h.later) [] = sym h.opened_are ∙ late.unselected u in cc);
        data_ordered = ordered.3;
        control_ordered = late.control_ordered;
      }

  picked : expired_at end.tracker end.moment ≡ h.first ∷ expired_at (with_data end end.moment h.later).tracker end.moment
  picked =
      ap (λ (xs : List Transaction). filter (λ (opened : Transaction). nat_lt end.tracker.settings.t3 (end.moment - opened.time)) xs) h.opened_are
      ∙ first_picked (λ (opened : Transaction). nat_lt end.tracker.settings.t3 (end.moment - opened.time)) h.first h.later h.overdue

  pub one_expired : (start next : State) (before entries more : List Entry) (headers : List Header) → HasExpired start before end entries headers → Performs end entries (logs (T3 header.system) ∷ []) next more → next ≡ after_event end (T3 header.system) → HasExpired start before next more (headers ++ header ∷ [])
  one_expired start next before entries more headers has done is =
      let after : State = with_data end end.moment h.later in
      let is_after : next ≡ after = is ∙ t3_after in
      let same_act : logs (T3 header.system) ≡ expiry h.first = ap (λ (other : Header). logs (T3 other.system)) h.header_is in
      let acts : map expiry has.expired ++ logs (T3 header.system) ∷ [] ≡ map expiry (has.expired ++ h.first ∷ []) =
      ap (λ (act : Act). map expiry has.expired ++ act ∷ []) same_act ∙ sym (map-append expiry has.expired (h.first ∷ [])) in
      let both : Performs start before (map expiry has.expired ++ logs (T3 header.system) ∷ []) after more =
      does_then start end after before entries more (map expiry has.expired) (logs (T3 header.system) ∷ []) has.does
      (subst (λ (s : State). Performs end entries (logs (T3 header.system) ∷ []) s more) is_after done) in
      subst (λ (s : State). HasExpired start before s more (headers ++ header ∷ [])) (sym is_after)
      (record {
        expired = has.expired ++ h.first ∷ [];
        onward = has.onward ∙ ap (λ xs. has.expired ++ xs) picked ∙ sym (append_assoc has.expired (h.first ∷ []) (expired_at after.tracker end.moment));
        does = subst (λ acts. Performs start before acts after more) acts both;
        headers_are =
            ap (λ hs. hs ++ header ∷ []) has.headers_are
            ∙ ap (λ (other : Header). headers_of has.expired ++ other ∷ []) h.header_is
            ∙ sym (map-append (λ (transaction : Transaction). transaction.header) has.expired (h.first ∷ []));
        same = ap (λ (s : State). with_data s end.moment h.later) has.same;
        late = t3_late;
      })

  pub fewer : length h.later < length end.tracker.sent_data
  fewer = let e : length end.tracker.sent_data ≡ length (h.first ∷ h.later) = ap length h.opened_are in omega arith

-- ---- all of them

extends_none : (view : View) (log : List Entry) → HasView view.settings log view → HasView view.settings (log ++ []) view
extends_none view log has = subst (λ es. HasView view.settings es view) (sym (append-nil log)) has

pub does_none : (end : State) (before : List Entry) → Performs end before [] end before
does_none end before = record { new = []; added = sym (append-nil before); done = (refl, refl); run = λ log has. extends_none end.tracker log has }

pub begun_to_expire : (start : State) (before : List Entry) → IsLate start → HasExpired start before start before []
begun_to_expire start before late =
    record { expired = []; onward = refl; does = does_none start before; headers_are = refl; same = refl; late = late }

pub first_overdue : (end : State) (header : Header) → IsLate end → overdue_of end.settings.t3 end.moment (oldest_of end.tracker.sent_data) ≡ Some header → IsOverdueFirst end.tracker.settings.t3 end.moment end.tracker.sent_data header
first_overdue end header late e =
    found_overdue end.tracker.settings.t3 end.moment end.tracker.sent_data header
    (subst (λ (p : Parameters). overdue_of p.t3 end.moment (oldest_of end.tracker.sent_data) ≡ Some header) late.settings e)

pub data_in_time : (end : State) → IsLate end → overdue_of end.settings.t3 end.moment (oldest_of end.tracker.sent_data) ≡ None → is_data_overdue end ≡ false
data_in_time end late e =
    none_overdue end.tracker.settings.t3 end.moment end.tracker.sent_data late.data_ordered
    (subst (λ (p : Parameters). overdue_of p.t3 end.moment (oldest_of end.tracker.sent_data) ≡ None) late.settings e)

pub fewer_left : (end next : State) (header : Header) → IsLate end → overdue_of end.settings.t3 end.moment (oldest_of end.tracker.sent_data) ≡ Some header → next ≡ after_event end (T3 header.system) → length next.tracker.sent_data < length end.tracker.sent_data
fewer_left end next header late e is =
    let h = first_overdue end header late e in
    let same : length next.tracker.sent_data ≡ length h.later = ap (λ (s : State). length s.tracker.sent_data) (is ∙ t3_after end late header h) in
    let less : length h.later < length end.tracker.sent_data = fewer end late header h in
    omega arith

-- The data that has expired is all data that was overdue.
pub all_expired : (start end : State) (before entries : List Entry) (headers : List Header) (h : HasExpired start before end entries headers) → is_data_overdue end ≡ false → h.expired ≡ expired_at start.tracker start.moment
all_expired start end before entries headers h none =
    sym (h.onward ∙ ap (λ xs. h.expired ++ xs) (none_picked (λ (opened : Transaction). nat_lt end.tracker.settings.t3 (end.moment - opened.time)) end.tracker.sent_data none) ∙ append-nil h.expired)
