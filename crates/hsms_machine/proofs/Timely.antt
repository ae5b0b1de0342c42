-- A valid entry comes after all open transactions.
use Rattle.std.proofs.Common.{◌≡◌, ℕ, ◌<◌, ◌≤◌, Bool, true, false, not, cond, List, [], ◌∷◌, ◌++◌, Some, None, subst, sym, arith, filter, option_to_list}
use Rattle.hsms_frame.specs.declared.header.Header.{Header}
use Rattle.hsms_machine.specs.declared.entry.Entry.{Entry}
use Rattle.hsms_machine.specs.declared.entry.Event.{Event}
use Rattle.hsms_machine.specs.declared.entry.Event.TheVariants.{Sent, Taken}
use Rattle.hsms_machine.specs.declared.open_transactions.Transaction.{Transaction}
use Rattle.hsms_machine.specs.declared.view.View.{View}
use Rattle.hsms_machine.specs.Message.{is_data_request, is_control_request}
use Rattle.hsms_machine.specs.Transaction.{Pool, SentData, SentControl, TakenData, TakenControl, opened_as, opened_as_at}
use Rattle.hsms_machine.specs.Rule.{Breaks, IsFirst, all_rules}
use Rattle.hsms_machine.specs.Settings.{Parameters}
use Rattle.hsms_machine.specs.Entry.{is_up, connection_of}
use Rattle.hsms_machine.specs.View.{view_of}
use Rattle.hsms_machine.specs.ViewRules.{facts_of, is_closed_by, pool_after, view_after, IsUntil}
use Rattle.hsms_machine.specs.OpeningOrder.{AreUntil}
use Rattle.hsms_machine.proofs.SameFacts.{Never, never_from}

module _ (view : View) (entry : Entry) (is_valid : IsFirst (Breaks (facts_of view) view.settings entry) all_rules None) where
  breaks_none : Never (Breaks (facts_of view) view.settings entry) all_rules
  breaks_none = never_from (Breaks (facts_of view) view.settings entry) all_rules is_valid

  pub not_past : view.last_time ≤ entry.time
  not_past =
      let h : entry.time < view.last_time → ⊥ = breaks_none.0 in
      omega (arith, h)

-- ---- times

until-le : (time later : ℕ) → time ≤ later → (xs : List Transaction) → AreUntil time xs → AreUntil later xs
until-le time later le [] h = tt
until-le time later le (x ∷ xs) h =
    let here : x.time ≤ time = h.0 in
    (omega arith, until-le time later le xs h.1)

pub view_until-le : (time later : ℕ) → time ≤ later → (view : View) → IsUntil time view → IsUntil later view
view_until-le time later le view h = record {
  sent_data = until-le time later le view.sent_data h.sent_data;
  sent_control = until-le time later le view.sent_control h.sent_control;
  taken_data = until-le time later le view.taken_data h.taken_data;
  taken_control = until-le time later le view.taken_control h.taken_control;
}

pub until-filter : (time : ℕ) (test : Transaction → Bool) (xs : List Transaction) → AreUntil time xs → AreUntil time (filter test xs)
until-filter time test [] h = tt
until-filter time test (x ∷ xs) h = by_case (until-filter time test xs h.1) (test x)
  where
    by_case : AreUntil time (filter test xs) → (b : Bool) → AreUntil time (cond b (x ∷ filter test xs) (filter test xs))
    by_case later true = (h.0, later)
    by_case later false = later

until-append : (time : ℕ) (xs ys : List Transaction) → AreUntil time xs → AreUntil time ys → AreUntil time (xs ++ ys)
until-append time [] ys h k = k
until-append time (x ∷ xs) ys h k = (h.0, until-append time xs ys h.1 k)

until-opened_by : (time : ℕ) (header : Header) (b : Bool) → AreUntil time (option_to_list (cond b (Some (record { time = time; header = header })) None))
until-opened_by time header true = (omega arith, tt)
until-opened_by time header false = tt

until-opened : (pool : Pool) (time : ℕ) (event : Event) → AreUntil time (option_to_list (opened_as_at pool time event))
until-opened SentData time (Sent frame) = until-opened_by time frame.header (is_data_request frame.header)
until-opened SentControl time (Sent frame) = until-opened_by time frame.header (is_control_request frame.header)
until-opened TakenData time (Taken frame) = until-opened_by time frame.header (is_data_request frame.header)
until-opened TakenControl time (Taken frame) = until-opened_by time frame.header (is_control_request frame.header)
until-opened pool time event = tt

until-pool : (pool : Pool) (xs : List Transaction) (entry : Entry) → AreUntil entry.time xs → AreUntil entry.time (pool_after pool xs entry)
until-pool pool xs entry h = by_case (is_up entry.event) where
  kept : AreUntil entry.time (filter (λ opened. not (is_closed_by pool entry.event opened)) xs ++ option_to_list (opened_as pool entry))
  kept =
      until-append entry.time (filter (λ opened. not (is_closed_by pool entry.event opened)) xs) (option_to_list (opened_as pool entry))
      (until-filter entry.time (λ opened. not (is_closed_by pool entry.event opened)) xs h) (until-opened pool entry.time entry.event)

  by_case : (b : Bool) → AreUntil entry.time (cond b [] (filter (λ opened. not (is_closed_by pool entry.event opened)) xs ++ option_to_list (opened_as pool entry)))
  by_case true = tt
  by_case false = kept

-- After a valid entry, no open transaction was opened after it.
pub until_after : (view new : View) (entry : Entry) → IsUntil entry.time view → new ≡ view_after view entry → IsUntil new.last_time new
until_after view new entry h e =
    let after : IsUntil entry.time (view_after view entry) = record {
      sent_data = until-pool SentData view.sent_data entry h.sent_data;
      sent_control = until-pool SentControl view.sent_control entry h.sent_control;
      taken_data = until-pool TakenData view.taken_data entry h.taken_data;
      taken_control = until-pool TakenControl view.taken_control entry h.taken_control;
    } in
    subst (λ w. IsUntil w.last_time w) (sym e) after

pub kept_until : (view new : View) → new ≡ view → IsUntil view.last_time view → IsUntil new.last_time new
kept_until view new e h = subst (λ w. IsUntil w.last_time w) (sym e) h

pub new_until : (settings : Parameters) (view : View) → view ≡ view_of settings [] → IsUntil view.last_time view
unfolding connection_of
new_until settings view e =
    let empty : IsUntil 0 (view_of settings []) = record { sent_data = tt; sent_control = tt; taken_data = tt; taken_control = tt } in
    subst (λ w. IsUntil w.last_time w) (sym e) empty
