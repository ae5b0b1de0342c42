-- An expiry that is inserted before an entry breaks no rule there.
use Rattle.std.proofs.Common.{◌≡◌, ℕ, ◌+◌, ◌-◌, ◌<◌, ◌≤◌, ◌==◌, ◌&&◌, ◌++◌, min, Bool, true, false, not, cond, List, [], ◌∷◌, length, filter, Option, Some, None, option_to_list, inl, inr, refl, sym, ap, subst, ◌∙◌, nat_lt, nat_le, arith, if◌then◌else◌}
use Rattle.std.specs.List.{list_any}
use Rattle.std.proofs.lemmas.Bool.{cases_lt, eq-eqb, ltb-true, ltb-false, le-leb}
use Rattle.std.proofs.lemmas.List.{append-nil, append_assoc}
use Rattle.hsms_frame.specs.declared.header.Header.{Header}
use Rattle.hsms_machine.specs.declared.entry.Entry.{Entry}
use Rattle.hsms_machine.specs.declared.entry.Event.{Event}
use Rattle.hsms_machine.specs.declared.entry.Event.TheVariants.{Up, Sent, Taken, Discarded, T3, Cut, Down}
use Rattle.hsms_machine.specs.declared.rule.Rule.{Rule}
use Rattle.hsms_machine.specs.declared.rule.Rule.TheVariants.{Backwards, NotUp, Ended, T3Overdue, NoCause}
use Rattle.hsms_machine.specs.declared.open_transactions.Transaction.{Transaction}
use Rattle.hsms_machine.specs.declared.view.View.{View}
use Rattle.hsms_machine.specs.Entry.{is_up, connection_of}
use Rattle.hsms_machine.specs.Message.{is_data_request, is_control_request}
use Rattle.hsms_machine.specs.OpeningOrder.{AreUntil, first_of}
use Rattle.hsms_machine.specs.InnerOpeningOrder.{AreInOrder}
use Rattle.hsms_machine.specs.RepairLaws.{ExpiryPutIsValid}
use Rattle.hsms_machine.specs.Repair.{First, change_by, entry_of_event, expired, expiry_of}
use Rattle.hsms_machine.specs.Rule.{Breaks, IsFirst, IsNotUp, all_rules, format_rules, timer_rules, transaction_rules}
use Rattle.hsms_machine.specs.Run.{Broken, IsRun}
use Rattle.hsms_machine.specs.Session.{facts_before}
use Rattle.hsms_machine.specs.Settings.{Parameters}
use Rattle.hsms_machine.specs.ViewRules.{IsUntil, is_closed_by, pool_after}
use Rattle.hsms_machine.specs.Transaction.{Pool, SentData, SentControl, TakenData, TakenControl, opened_as, opened_as_at, passes}
use Rattle.hsms_machine.specs.View.{open_of, view_of}
use Rattle.hsms_machine.proofs.KeptTransactions.{in_order-push, in_order-filter}
use Rattle.hsms_machine.proofs.Connection.{on-before}
use Rattle.hsms_machine.proofs.First.{applies, not_first}
use Rattle.hsms_machine.proofs.Mapped.{any_first, overdue_falls}
use Rattle.hsms_machine.proofs.Push.{view-push}
use Rattle.hsms_machine.proofs.Runs.{run-front, run-next}
use Rattle.hsms_machine.proofs.SameFacts.{never_from, none_never}
use Rattle.hsms_machine.proofs.Timely.{new_until, until_after, until-filter, view_until-le}
use Rattle.hsms_machine.proofs.ViewsOfRuns.{past_from, past_to, open_from_pool, pool_from_open}

-- ---- the open primaries and requests of a run are in order of opening

module _ (P : List Entry → Type 0) (more : (log : List Entry) (entry : Entry) → P log → P (log ++ entry ∷ [])) where
  from_front : (front back : List Entry) → P front → P (front ++ back)
  from_front front [] p = subst P (sym (append-nil front)) p
  from_front front (entry ∷ back) p = subst P (append_assoc front (entry ∷ []) back) (from_front (front ++ entry ∷ []) back (more front entry p))

not_before : (settings : Parameters) (log : List Entry) (entry : Entry) → Broken settings log entry None → (view_of settings log).last_time ≤ entry.time
unfolding Broken
not_before settings log entry is_valid =
    let never = never_from (Breaks (facts_before log (length log)) settings entry) all_rules is_valid in
    elim (cases_lt entry.time (view_of settings log).last_time) [
      | inl before ↦ absurd (never.0 (past_to log entry.time before))
      | inr le ↦ le
    ]

one_ordered : (xs : List Transaction) (time : ℕ) (header : Header) (b : Bool) → AreInOrder xs → AreUntil time xs
    → AreInOrder (xs ++ option_to_list (cond b (Some (record { time = time; header = header })) None))
one_ordered xs time header true ordered until = in_order-push xs (record { time = time; header = header }) ordered until
one_ordered xs time header false ordered until = subst AreInOrder (sym (append-nil xs)) ordered

opened_ordered : (pool : Pool) (xs : List Transaction) (time : ℕ) (event : Event) → AreInOrder xs → AreUntil time xs
    → AreInOrder (xs ++ option_to_list (opened_as_at pool time event))
opened_ordered SentData xs time (Sent frame) ordered until = one_ordered xs time frame.header (is_data_request frame.header) ordered until
opened_ordered SentControl xs time (Sent frame) ordered until = one_ordered xs time frame.header (is_control_request frame.header) ordered until
opened_ordered TakenData xs time (Taken frame) ordered until = one_ordered xs time frame.header (is_data_request frame.header) ordered until
opened_ordered TakenControl xs time (Taken frame) ordered until = one_ordered xs time frame.header (is_control_request frame.header) ordered until
opened_ordered pool xs time event ordered until = subst AreInOrder (sym (append-nil xs)) ordered

pool_ordered : (pool : Pool) (xs : List Transaction) (entry : Entry) → AreInOrder xs → AreUntil entry.time xs → AreInOrder (pool_after pool xs entry)
pool_ordered pool xs entry ordered until = by_case (is_up entry.event) where
  by_case : (b : Bool) → AreInOrder (cond b [] (filter (λ opened. not (is_closed_by pool entry.event opened)) xs ++ option_to_list (opened_as pool entry)))
  by_case true = tt
  by_case false =
      opened_ordered pool (filter (λ opened. not (is_closed_by pool entry.event opened)) xs) entry.time entry.event
      (in_order-filter (λ opened. not (is_closed_by pool entry.event opened)) xs ordered)
      (until-filter entry.time (λ opened. not (is_closed_by pool entry.event opened)) xs until)

-- Holds if the open transactions of a run are in order, and were opened by the time of its last entry.
pub record AreTimely (view : View) : Type 0 where
  pub ordered : AreInOrder view.sent_data
  pub requests : AreInOrder view.sent_control
  pub until : IsUntil view.last_time view

abbrev IsTimelyRun : Parameters → List Entry → Type 0
IsTimelyRun settings log = IsRun settings log → AreTimely (view_of settings log)

none_timely : (settings : Parameters) → IsTimelyRun settings []
unfolding connection_of
none_timely settings run = record { ordered = tt; requests = tt; until = new_until settings (view_of settings []) refl }

timely_more : (settings : Parameters) (log : List Entry) (entry : Entry) → IsTimelyRun settings log → IsTimelyRun settings (log ++ entry ∷ [])
timely_more settings log entry before run =
    let timely = before (run-front settings log (entry ∷ []) run) in
    let view = view_of settings log in
    let le = not_before settings log entry (run-next settings log entry [] run) in
    let until = view_until-le view.last_time entry.time le view timely.until in
    let after = view-push settings log entry in
    record {
      ordered = subst (λ v. AreInOrder v.sent_data) (sym after) (pool_ordered SentData view.sent_data entry timely.ordered until.sent_data);
      requests = subst (λ v. AreInOrder v.sent_control) (sym after) (pool_ordered SentControl view.sent_control entry timely.requests until.sent_control);
      until = until_after view (view_of settings (log ++ entry ∷ [])) entry until after;
    }

pub run_timely : (settings : Parameters) (log : List Entry) → IsRun settings log → AreTimely (view_of settings log)
run_timely settings log = from_front (IsTimelyRun settings) (timely_more settings) [] log (none_timely settings)

-- ---- the expiry

-- The rules after the first two.
abbrev after_up : List Rule
after_up = Ended ∷ (timer_rules ++ (format_rules ++ (transaction_rules ++ (NoCause ∷ []))))

-- An expiry does not lack its `up`, if the entry before which it is due does not.
not_missing : (log : List Entry) (settings : Parameters) (event : Event) (system : ℕ) → 0 < length log
    → ((facts_before log (length log)).FollowsDown → ⊥) → (IsNotUp (facts_before log (length log)) settings event → ⊥)
    → IsNotUp (facts_before log (length log)) settings (T3 system) → ⊥
not_missing log settings Up system some not_down up lacks = up (some, λ c. not_down c.1)
not_missing log settings (Sent frame) system some not_down up lacks = up lacks
not_missing log settings (Taken frame) system some not_down up lacks = up lacks
not_missing log settings (Discarded frame) system some not_down up lacks = up lacks
not_missing log settings (T3 other) system some not_down up lacks = up lacks
not_missing log settings (Cut cause) system some not_down up lacks = up lacks
not_missing log settings Down system some not_down up lacks = up lacks

late_by : (last moment time : ℕ) (b : Bool) → nat_lt last moment ≡ b → (last ≤ (if b then moment else last)) × (moment ≤ (if b then moment else last))
late_by last moment time true is = let lt : last < moment = ltb-true last moment is in (omega arith, omega arith)
late_by last moment time false is = let le : moment ≤ last = ltb-false last moment is in (omega arith, omega arith)

-- The expiry is due, and no earlier than the entry before.
when_due : (view : View) (time since : ℕ) → view.settings.t3 < time - since
    → (view.last_time ≤ expiry_of view time since view.settings.t3) × (view.settings.t3 ≤ expiry_of view time since view.settings.t3 - since)
when_due view time since late =
    let moment = min (since + view.settings.t3) time in
    let (last, due) = late_by view.last_time moment time (nat_lt view.last_time moment) refl in
    (last, omega (arith, due, late))

pub any_of_first : (test : Transaction → Bool) (xs : List Transaction) (opened : Transaction) → first_of xs ≡ Some opened → test opened ≡ true → list_any test xs ≡ true
any_of_first test [] opened e so = absurd cc
any_of_first test (x ∷ xs) opened e so =
    let is : x ≡ opened = cc in
    let here : test x ≡ true = ap test is ∙ so in
    rw here refl

expiry_valid : (settings : Parameters) (log : List Entry) (entry : Entry) (opened : Transaction) → IsRun settings log
    → IsFirst (Breaks (facts_before log (length log)) settings entry) all_rules (Some T3Overdue) → first_of (open_of SentData log) ≡ Some opened
    → IsFirst (Breaks (facts_before log (length log)) settings (entry_of_event (expiry_of (view_of settings log) entry.time opened.time settings.t3) (T3 opened.header.system)))
    all_rules None
expiry_valid settings log entry opened run h first =
    let F = facts_before log (length log) in
    let view = view_of settings log in
    let not_up = (not_first (Breaks F settings entry) NotUp after_up T3Overdue (λ e. cc) (not_first (Breaks F settings entry) Backwards (NotUp ∷ after_up) T3Overdue (λ e. cc) h).1).0 in
    let overdue = applies (Breaks F settings entry) all_rules T3Overdue h in
    let timed = overdue.1.0 in
    let some_late = overdue.1.1 in
    let some : 0 < length log = (let lt = on-before log some_late.0 (length log) some_late.1.earlier in omega (arith, lt)) in
    let late_test : ℕ → Bool = λ time. nat_lt settings.t3 (entry.time - time) in
    let any_late = pool_from_open SentData log (λ other. late_test other.time) some_late in
    let oldest : passes (λ other. late_test other.time) (first_of (open_of SentData log)) ≡ true =
    sym (any_first late_test (overdue_falls entry.time settings.t3) (open_of SentData log) (run_timely settings log run).ordered) ∙ any_late in
    let late : nat_lt settings.t3 (entry.time - opened.time) ≡ true = sym (ap (passes (λ other. late_test other.time)) first) ∙ oldest in
    let due = when_due view entry.time opened.time (ltb-true settings.t3 (entry.time - opened.time) late) in
    let time = expiry_of view entry.time opened.time settings.t3 in
    let system = opened.header.system in
    let here : ((opened.header.system == system) && nat_le settings.t3 (time - opened.time)) ≡ true =
    rw (eq-eqb opened.header.system system refl) (le-leb settings.t3 (time - opened.time) due.1) in
    let found = open_from_pool SentData log (λ other. (other.header.system == system) && nat_le settings.t3 (time - other.time))
    (any_of_first (λ other. (other.header.system == system) && nat_le settings.t3 (time - other.time)) (open_of SentData log) opened first here) in
    none_never (Breaks F settings (entry_of_event time (T3 system))) all_rules
    ((λ past. let lt = past_from log time past in absurd (omega (arith, lt, due.0))), ((not_missing log settings entry.event system some timed.1 not_up), ((λ ended. timed.0 ended.1), ((λ other. other.0 refl), ((λ other. other.0 refl), ((λ early. early found), ((λ never. never), ((λ never. never), ((λ never. never), ((λ never. never), ((λ never. never), ((λ never. never), ((λ never. never), ((λ never. never), ((λ never. never), ((λ never. never), ((λ never. never), ((λ never. never), ((λ never. never), tt)))))))))))))))))))

put_by : (settings : Parameters) (log : List Entry) (entry first : Entry) (oldest : Option Transaction) → IsRun settings log
    → IsFirst (Breaks (facts_before log (length log)) settings entry) all_rules (Some T3Overdue) → first_of (open_of SentData log) ≡ oldest
    → change_by (expired (view_of settings log) entry.time oldest) entry ≡ First first
    → IsFirst (Breaks (facts_before log (length log)) settings first) all_rules None
put_by settings log entry first None run h is put = absurd cc
put_by settings log entry first (Some opened) run h is put =
    let same : entry_of_event (expiry_of (view_of settings log) entry.time opened.time settings.t3) (T3 opened.header.system) ≡ first = cc in
    let P : Entry → Type 0 = λ e. IsFirst (Breaks (facts_before log (length log)) settings e) all_rules None in
    subst P same (expiry_valid settings log entry opened run h is)

pub expiry_put : ExpiryPutIsValid
unfolding Broken
expiry_put settings log entry first run h put = put_by settings log entry first (first_of (open_of SentData log)) run h refl put
