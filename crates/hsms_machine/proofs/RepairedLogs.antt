-- After a run each entry has a repair, with few checks.
use Rattle.std.proofs.Common.{◌≡◌, ℕ, zero, suc, ◌+◌, ◌-◌, ◌*◌, ◌<◌, ◌≤◌, ◌==◌, ◌&&◌, ◌||◌, not, min, Bool, true, false, cond, List, [], ◌∷◌, ◌++◌, length, filter, Option, Some, None, ◌⊎◌, inl, inr, refl, sym, ap, subst, ◌∙◌, nat_lt, nat_le, arith}
use Rattle.std.specs.List.{list_any}
use Rattle.std.proofs.lemmas.Bool.{cases_Bool, cases_lt, and_parts, eqb-true, eq-eqb, ltb-true, ltb-false, lt-ltb, le-leb}
use Rattle.std.proofs.lemmas.List.{append-nil, append_assoc}
use Rattle.secs_item.specs.Laws.{SomeTextAnswer, NotBothOfText}
use Rattle.secs_item.specs.Encoding.{IsOctets}
use Rattle.hsms_frame.specs.Frame.{Frame}
use Rattle.hsms_machine.specs.declared.entry.Entry.{Entry}
use Rattle.hsms_machine.specs.declared.entry.Event.{Event}
use Rattle.hsms_machine.specs.declared.entry.Event.TheVariants.{Up, Sent, Taken, Discarded, T3, Cut, Down}
use Rattle.hsms_machine.specs.declared.entry.Cause.{Cause}
use Rattle.hsms_machine.specs.declared.entry.Cause.TheVariants.{T6, T7}
use Rattle.hsms_machine.specs.declared.phase.Phase.{Phase}
use Rattle.hsms_machine.specs.declared.phase.Phase.TheVariants.{Before, NotSelected, Selected, Over, Gone}
use Rattle.hsms_machine.specs.declared.repair.RepairAction.TheVariants.{CutFirst, DownFirst, LeaveOut}
use Rattle.hsms_machine.specs.declared.rule.Rule.{Rule}
use Rattle.hsms_machine.specs.declared.rule.Rule.TheVariants.{Backwards, NotUp, Ended, T3Overdue, LinkOverdue, NotDue, NoCause}
use Rattle.hsms_machine.specs.declared.open_transactions.Transaction.{Transaction}
use Rattle.hsms_machine.specs.declared.view.View.{View}
use Rattle.hsms_machine.specs.Laws.{HasOctets}
use Rattle.hsms_machine.specs.OpeningOrder.{first_of}
use Rattle.hsms_machine.specs.RepairLaws.{AllHaveOctets, CutPutIsValid, EachEntryIsRepaired, EachLogIsRepaired, NoEntryIsRepairedTwice, NoLogIsRepairedTwice, judgements}
use Rattle.hsms_machine.specs.Repair.{Change, Other, First, Without, Steps, Passed, LeftOut, Changed, Preceded, Asks, RepairedBy, IsRepaired, change_by, cut, cut_by_t7, discarded, entry_of_event, expired, expiry_of, missing_down, repair_of}
use Rattle.hsms_machine.specs.Rule.{Breaks, IsFirst, all_rules, is_expiry, is_link_cut, format_rules, transaction_rules}
use Rattle.hsms_machine.specs.Run.{Broken, IsRun}
use Rattle.hsms_machine.specs.Settings.{Parameters}
use Rattle.hsms_machine.specs.Entry.{is_t3}
use Rattle.hsms_machine.specs.ViewRules.{facts_of, is_connected, is_closed_by, phase_after, pool_after}
use Rattle.hsms_machine.specs.Timer.{IsTimed, IsT3Overdue, IsT7Overdue, IsCutNotDue}
use Rattle.hsms_machine.specs.Transaction.{SentData, SentControl, passes}
use Rattle.hsms_machine.specs.View.{open_of, phase_of, view_of}
use Rattle.hsms_machine.proofs.OtherEntries.{fewer}
use Rattle.hsms_machine.proofs.Connection.{on-before}
use Rattle.hsms_machine.proofs.Decided.{returned_result}
use Rattle.hsms_machine.proofs.Expiring.{any_of_first, expiry_put, run_timely}
use Rattle.hsms_machine.proofs.First.{applies, not_first}
use Rattle.hsms_machine.proofs.ValidEntries.{one_first}
use Rattle.hsms_machine.proofs.Mapped.{any_first, overdue_falls}
use Rattle.hsms_machine.proofs.RepairEntries.{asks_not, repaired_is_run}
use Rattle.hsms_machine.proofs.Push.{pool-push, view-push}
use Rattle.hsms_machine.proofs.Runs.{empty_run, run-push}
use Rattle.hsms_machine.proofs.SameFacts.{late_up, never_from, none_never}
use Rattle.hsms_machine.proofs.ViewsOfRuns.{broken-view, order_from_view, open_from_view}

-- ---- what is checked, by the view

abbrev BreaksAt : Parameters → List Entry → Entry → Rule → Type 0
BreaksAt settings log entry rule = Breaks (facts_of (view_of settings log)) settings entry rule

abbrev FirstAt : Parameters → List Entry → Entry → Option Rule → Type 0
FirstAt settings log entry answer = IsFirst (BreaksAt settings log entry) all_rules answer

-- Holds if the entry is no earlier than the one before it.
abbrev IsTimelyAt : Parameters → List Entry → Entry → Type 0
IsTimelyAt settings log entry = (view_of settings log).last_time ≤ entry.time

-- Holds if the entry has a repair with at most `most` checks, and `Holds` holds for the log then.
pub record Within (settings : Parameters) (Holds : List Entry → Type 0) (most : ℕ) (log : List Entry) (entry : Entry) : Type 0 where
  pub steps : Steps
  pub put : List Entry
  pub entry_repaired : RepairedBy settings log steps entry put
  pub few : judgements steps ≤ most
  pub holds : Holds (log ++ put)

abbrev pub Anything : List Entry → Type 0
Anything log = Unit {0}

-- Holds if this entry is inserted before another one, as the rule that the other breaks requires, and is valid.
record IsPutFirst (settings : Parameters) (log : List Entry) (entry first : Entry) (rule : Rule) : Type 0 where
  asked : change_by (repair_of (view_of settings log) entry rule) entry ≡ First first
  is_valid : Broken settings log first None
  in_time : first.time ≤ entry.time

module _ (settings : Parameters) (Holds : List Entry → Type 0) where
  asks : (log : List Entry) (entry : Entry) (rule : Rule) (change : Change) → IsRun settings log → FirstAt settings log entry (Some rule)
      → change_by (repair_of (view_of settings log) entry rule) entry ≡ change → Asks settings log entry change
  asks log entry rule change run h is = (rule, broken-view settings log run entry (Some rule) h, is)

  passed : (most : ℕ) (log : List Entry) (entry : Entry) → IsRun settings log → FirstAt settings log entry None → Holds (log ++ entry ∷ []) → 1 ≤ most
      → Within settings Holds most log entry
  passed most log entry run h holds le =
      record { steps = Passed; put = entry ∷ []; entry_repaired = (broken-view settings log run entry None h, refl); few = le; holds = holds }

  omitted : (most : ℕ) (log : List Entry) (entry : Entry) (rule : Rule) → IsRun settings log → FirstAt settings log entry (Some rule)
      → change_by (repair_of (view_of settings log) entry rule) entry ≡ Without → Holds log → 1 ≤ most → Within settings Holds most log entry
  omitted most log entry rule run h is holds le =
      record { steps = LeftOut; put = []; entry_repaired = (asks log entry rule Without run h is, refl); few = le; holds = subst Holds (sym (append-nil log)) holds }

  changed : (most : ℕ) (log : List Entry) (entry other : Entry) (rule : Rule) → IsRun settings log → FirstAt settings log entry (Some rule)
      → change_by (repair_of (view_of settings log) entry rule) entry ≡ Other other → Within settings Holds most log other
      → Within settings Holds (suc most) log entry
  changed most log entry other rule run h is more =
      let few : judgements more.steps ≤ most = more.few in
      record { steps = Changed more.steps; put = more.put; entry_repaired = (other, asks log entry rule (Other other) run h is, more.entry_repaired); few = omega arith; holds = more.holds }

  preceded : (Holds_first : List Entry → Type 0) (before subsequent : ℕ) (log : List Entry) (entry first : Entry) (rule : Rule) → IsRun settings log
      → FirstAt settings log entry (Some rule) → change_by (repair_of (view_of settings log) entry rule) entry ≡ First first
      → (one : Within settings Holds_first before log first) → Within settings Holds subsequent (log ++ one.put) entry
      → Within settings Holds (suc (before + subsequent)) log entry
  preceded Holds_first before subsequent log entry first rule run h is one more =
      let few : judgements one.steps ≤ before = one.few in
      let fewer : judgements more.steps ≤ subsequent = more.few in
      record {
        steps = Preceded one.steps more.steps;
        put = one.put ++ more.put;
        entry_repaired = (first, one.put, more.put, asks log entry rule (First first) run h is, one.entry_repaired, more.entry_repaired, refl);
        few = omega arith;
        holds = subst Holds (append_assoc log one.put more.put) more.holds;
      }

  -- A valid entry that is inserted takes two checks.
  subsequent : (most : ℕ) (log : List Entry) (entry first : Entry) (rule : Rule) → IsRun settings log → FirstAt settings log entry (Some rule)
      → IsPutFirst settings log entry first rule → Within settings Holds most (log ++ first ∷ []) entry
      → Within settings Holds (suc (1 + most)) log entry
  subsequent most log entry first rule run h put more =
      let one : Within settings Anything 1 log first = record { steps = Passed; put = first ∷ []; entry_repaired = (put.is_valid, refl); few = omega arith; holds = tt } in
      preceded Anything 1 most log entry first rule run h put.asked one more

-- ---- times

later_parts : (one other : ℕ) (b : Bool) → nat_lt one other ≡ b
    → (one ≤ cond b other one) × (other ≤ cond b other one) × ((bound : ℕ) → one ≤ bound → other ≤ bound → cond b other one ≤ bound)
later_parts one other true is = let lt : one < other = ltb-true one other is in (omega arith, omega arith, λ bound le more. more)
later_parts one other false is = let le : other ≤ one = ltb-false one other is in (omega arith, omega arith, λ bound le more. le)

-- It is no earlier than the entry before, no later than this one, and due.
moment_of : (view : View) (time since limit : ℕ) → view.last_time ≤ time → limit < time - since
    → (view.last_time ≤ expiry_of view time since limit) × (expiry_of view time since limit ≤ time) × (limit ≤ expiry_of view time since limit - since)
moment_of view time since limit le late =
    let moment = min (since + limit) time in
    let parts = later_parts view.last_time moment (nat_lt view.last_time moment) refl in
    let due : moment ≤ expiry_of view time since limit = parts.1 in
    (parts.0, parts.2 time le (omega arith), omega (arith, due, late))

-- ---- an expiry is inserted

head_of : (test : Transaction → Bool) (xs : List Transaction) → list_any test xs ≡ true → (x : Transaction) × (rest : List Transaction) × (xs ≡ x ∷ rest)
head_of test [] e = absurd (let d : false ≡ true = e in cc)
head_of test (x ∷ xs) e = (x, xs, refl)

without_first : (test : Transaction → Bool) (x : Transaction) (xs : List Transaction) → test x ≡ false → length (filter test (x ∷ xs) ++ []) ≤ length xs
without_first test x xs fails =
    subst (λ b. length (cond b (x ∷ filter test xs) (filter test xs) ++ []) ≤ length xs) (sym fails)
    (subst (λ l. length l ≤ length xs) (sym (append-nil (filter test xs))) (fewer test xs))

phase_with_t3 : (phase : Phase) (system : ℕ) → (phase ≡ Before → ⊥) → phase_after phase (T3 system) ≡ phase
phase_with_t3 Before system some = absurd (some refl)
phase_with_t3 NotSelected system some = refl
phase_with_t3 Selected system some = refl
phase_with_t3 Over system some = refl
phase_with_t3 Gone system some = refl

module _ (some : SomeTextAnswer) (not_both : NotBothOfText) (settings : Parameters) where
  -- What is valid after the log is valid by the view.
  returned_valid : (log : List Entry) (entry : Entry) → IsRun settings log → HasOctets entry.event → Broken settings log entry None → FirstAt settings log entry None
  returned_valid log entry run fits is_valid =
      let answer = returned_result some not_both (view_of settings log) settings entry fits in
      let none : answer.0 ≡ None = one_first settings log entry answer.0 None (broken-view settings log run entry answer.0 answer.1) is_valid in
      subst (FirstAt settings log entry) none answer.1

  -- Holds for the expiry of the oldest primary, if it has to come before an entry: the phase stays, and fewer primaries
  -- wait.
  record IsExpiryFirst (log : List Entry) (entry first : Entry) : Type 0 where
    put : IsPutFirst settings log entry first T3Overdue
    phase : phase_of (log ++ first ∷ []) ≡ phase_of log
    fewer : suc (length (open_of SentData (log ++ first ∷ []))) ≤ length (open_of SentData log)

  expiry_first : (log : List Entry) (entry : Entry) → IsRun settings log → IsTimelyAt settings log entry → FirstAt settings log entry (Some T3Overdue)
      → (first : Entry) × IsExpiryFirst log entry first
  expiry_first log entry run timely h =
      let view = view_of settings log in
      let overdue : BreaksAt settings log entry T3Overdue = applies (BreaksAt settings log entry) all_rules T3Overdue h in
      let (opened, rest, is) = head_of (λ opened. nat_lt settings.t3 (entry.time - opened.time)) (open_of SentData log) overdue.1.1 in
      let late_test : ℕ → Bool = λ time. nat_lt settings.t3 (entry.time - time) in
      let oldest : passes (λ other. late_test other.time) (first_of (open_of SentData log)) ≡ true =
      sym (any_first late_test (overdue_falls entry.time settings.t3) (open_of SentData log) (run_timely settings log run).ordered) ∙ overdue.1.1 in
      let late : nat_lt settings.t3 (entry.time - opened.time) ≡ true = sym (ap (λ xs. passes (λ other. late_test other.time) (first_of xs)) is) ∙ oldest in
      let moment = moment_of view entry.time opened.time settings.t3 timely (ltb-true settings.t3 (entry.time - opened.time) late) in
      let system = opened.header.system in
      let first = entry_of_event (expiry_of view entry.time opened.time settings.t3) (T3 system) in
      let asked : change_by (repair_of view entry T3Overdue) entry ≡ First first = ap (λ xs. change_by (expired view entry.time (first_of xs)) entry) is in
      let is_valid = expiry_put settings log entry first run (broken-view settings log run entry (Some T3Overdue) h) asked in
      let never = never_from (BreaksAt settings log first) all_rules (returned_valid log first run tt is_valid) in
      let has_begun : phase_of log ≡ Before → ⊥ = λ e. never.1.0 (inl (λ some. some e)) in
      let gone : not (opened.header.system == system) ≡ false = ap not (eq-eqb opened.header.system system refl) in
      let sent : open_of SentData (log ++ first ∷ []) ≡ filter (λ other. not (other.header.system == system)) (opened ∷ rest) ++ [] =
      pool-push SentData log first ∙ ap (λ xs. pool_after SentData xs first) is in
      let less : length (open_of SentData (log ++ first ∷ [])) ≤ length rest =
      subst (λ l. length l ≤ length rest) (sym sent) (without_first (λ other. not (other.header.system == system)) opened rest gone) in
      let all : length (open_of SentData log) ≡ suc (length rest) = ap length is in (
        first,
        record {
          put = record { asked = asked; is_valid = is_valid; in_time = moment.1 };
          phase = ap (λ v. v.phase) (view-push settings log first) ∙ phase_with_t3 (phase_of log) system has_begun;
          fewer = omega arith;
        },
      )

-- ---- a cut is inserted

any_weaker : (test other : Transaction → Bool) (xs : List Transaction) → ((x : Transaction) → test x ≡ true → other x ≡ true)
    → list_any test xs ≡ true → list_any other xs ≡ true
any_weaker test other [] weaker e = absurd (let d : false ≡ true = e in cc)
any_weaker test other (x ∷ xs) weaker e = by_case (any_weaker test other xs weaker) (test x) refl where
  or_so : (b : Bool) → list_any other xs ≡ true → (b || list_any other xs) ≡ true
  or_so true so = refl
  or_so false so = so

  by_case : (list_any test xs ≡ true → list_any other xs ≡ true) → (b : Bool) → test x ≡ b → (other x || list_any other xs) ≡ true
  by_case later true is = subst (λ b. (b || list_any other xs) ≡ true) (sym (weaker x is)) refl
  by_case later false is = or_so (other x) (later (subst (λ b. (b || list_any test xs) ≡ true) is e))

t3_expires : (event : Event) → is_t3 event ≡ true → is_expiry event ≡ true
t3_expires (T3 system) is = refl
t3_expires event is = absurd (let d : false ≡ true = is in cc)

phase_with_cut : (phase : Phase) (cause : Cause) → (phase ≡ Gone → ⊥) → phase_after phase (Cut cause) ≡ Over
phase_with_cut Before cause up = refl
phase_with_cut NotSelected cause up = refl
phase_with_cut Selected cause up = refl
phase_with_cut Over cause up = refl
phase_with_cut Gone cause up = absurd (up refl)

-- The rules after the first four.
abbrev after_t3_rules : List Rule
after_t3_rules = LinkOverdue ∷ NotDue ∷ (format_rules ++ (transaction_rules ++ (NoCause ∷ [])))

module _ (settings : Parameters) (log : List Entry) (entry : Entry) (run : IsRun settings log) (timely : IsTimelyAt settings log entry) (h : FirstAt settings log entry (Some LinkOverdue)) where
  abbrev view : View
  view = view_of settings log

  overdue : BreaksAt settings log entry LinkOverdue
  overdue = applies (BreaksAt settings log entry) all_rules LinkOverdue h

  timed : IsTimed (facts_of view)
  timed = elim overdue.1 [ inl t6 ↦ t6.0 | inr t7 ↦ t7.0 ]

  -- No primary is overdue.
  no_t3 : IsT3Overdue (facts_of view) settings entry.time → ⊥
  no_t3 late =
      let Breaks_here = BreaksAt settings log entry in
      let after_one = (not_first Breaks_here Backwards (NotUp ∷ Ended ∷ T3Overdue ∷ after_t3_rules) LinkOverdue (λ e. cc) h).1 in
      let after_two = (not_first Breaks_here NotUp (Ended ∷ T3Overdue ∷ after_t3_rules) LinkOverdue (λ e. cc) after_one).1 in
      let after_three = (not_first Breaks_here Ended (T3Overdue ∷ after_t3_rules) LinkOverdue (λ e. cc) after_two).1 in
      let none = (not_first Breaks_here T3Overdue after_t3_rules LinkOverdue (λ e. cc) after_three).0 in
      none ((λ is. overdue.0 (t3_expires entry.event is)), late)

  -- No primary was overdue at an earlier time.
  no_t3_before : (time : ℕ) → time ≤ entry.time → IsT3Overdue (facts_of view) settings time → ⊥
  no_t3_before time le late = no_t3 (late.0, any_weaker (λ opened. nat_lt settings.t3 (time - opened.time)) (λ opened. nat_lt settings.t3 (entry.time - opened.time)) (open_of SentData log) later late.1)
    where
      later : (x : Transaction) → nat_lt settings.t3 (time - x.time) ≡ true → nat_lt settings.t3 (entry.time - x.time) ≡ true
      later x is = let lt : settings.t3 < time - x.time = ltb-true settings.t3 (time - x.time) is in lt-ltb settings.t3 (entry.time - x.time) (omega arith)

  -- The connection was established.
  has_begun : phase_of log ≡ Before → ⊥
  has_begun e = elim overdue.1 [
    | inl t6 ↦
        let opened = open_from_view settings log SentControl (λ opened. nat_lt settings.t6 (entry.time - opened.time)) t6.1 in
        let lt = on-before log opened.0 (length log) opened.1.earlier in
        (order_from_view settings log run (omega (arith, lt))).entry.0 (omega (arith, lt)) e
    | inr t7 ↦
        let up : (is_connected (phase_of log) && nat_lt settings.t7 (entry.time - view.up_time)) ≡ true = t7.2 in
        let d : false ≡ true = subst (λ p. (is_connected p && nat_lt settings.t7 (entry.time - view.up_time)) ≡ true) e up in cc
  ]

  -- A cut that is due then breaks no rule.
  cut_valid : (time : ℕ) (cause : Cause) → view.last_time ≤ time → time ≤ entry.time → is_link_cut cause ≡ true
      → (IsCutNotDue (facts_of view) settings time cause → ⊥) → FirstAt settings log (entry_of_event time (Cut cause)) None
  cut_valid time cause last le is due =
      none_never (BreaksAt settings log (entry_of_event time (Cut cause))) all_rules
      ((λ past. absurd (omega (arith, past, last))), ((λ up. elim up [ inl begun ↦ begun has_begun | inr gone ↦ timed.1 gone ]), ((λ ended. timed.0 ended.1), ((λ t3. no_t3_before time le t3.1), ((λ link. link.0 is), ((λ early. due early), ((λ never. never), ((λ never. never), ((λ never. never), ((λ never. never), ((λ never. never), ((λ never. never), ((λ never. never), ((λ never. never), ((λ never. never), ((λ never. never), ((λ never. never), ((λ never. never), ((λ never. never), tt)))))))))))))))))))

  -- Holds for the cut that has to come before the entry.
  record IsCutFirst (first : Entry) : Type 0 where
    asked : change_by (repair_of view entry LinkOverdue) entry ≡ First first
    is_valid : FirstAt settings log first None
    in_time : first.time ≤ entry.time
    cause : Cause
    is : first.event ≡ Cut cause

  by_t6 : (opened : Transaction) → first_of view.sent_control ≡ Some opened → nat_lt settings.t6 (entry.time - opened.time) ≡ true
      → (first : Entry) × IsCutFirst first
  by_t6 opened is late =
      let moment = moment_of view entry.time opened.time settings.t6 timely (ltb-true settings.t6 (entry.time - opened.time) late) in
      let time = expiry_of view entry.time opened.time settings.t6 in
      let due : nat_le settings.t6 (time - opened.time) ≡ true = le-leb settings.t6 (time - opened.time) moment.2 in
      let found : list_any (λ other. nat_le settings.t6 (time - other.time)) view.sent_control ≡ true = any_of_first (λ other. nat_le settings.t6 (time - other.time)) view.sent_control opened is due in (
        entry_of_event time (Cut T6),
        record {
          asked =
              ap (λ o. change_by (cut view entry.time o) entry) is
              ∙ ap (λ b. change_by (cond b (CutFirst time T6) (cut_by_t7 view entry.time)) entry) late;
          is_valid = cut_valid time T6 moment.0 moment.1 refl (λ early. early found);
          in_time = moment.1;
          cause = T6;
          is = refl;
        },
      )

  by_t7 : IsT7Overdue (facts_of view) settings entry.time → repair_of view entry LinkOverdue ≡ cut_by_t7 view entry.time → (first : Entry) × IsCutFirst first
  by_t7 t7 is =
      let parts = and_parts (is_connected (phase_of log)) (nat_lt settings.t7 (entry.time - view.up_time)) t7.2 in
      let moment = moment_of view entry.time view.up_time settings.t7 timely (ltb-true settings.t7 (entry.time - view.up_time) parts.1) in
      let time = expiry_of view entry.time view.up_time settings.t7 in
      let due : IsCutNotDue (facts_of view) settings time T7 → ⊥ = λ early. elim early [
        | inl selected ↦ t7.1 selected
        | inr up ↦
            let soon = and_parts (is_connected (phase_of log)) (nat_lt (time - view.up_time) settings.t7) up in
            absurd (omega (arith, moment.2, ltb-true (time - view.up_time) settings.t7 soon.1))
      ] in (
        entry_of_event time (Cut T7),
        record {
          asked = ap (λ r. change_by r entry) is;
          is_valid = cut_valid time T7 moment.0 moment.1 refl due;
          in_time = moment.1;
          cause = T7;
          is = refl;
        },
      )

  -- If no request is overdue, T7 is.
  only_t7 : passes (λ opened. nat_lt settings.t6 (entry.time - opened.time)) (first_of view.sent_control) ≡ false → IsT7Overdue (facts_of view) settings entry.time
  only_t7 none = elim overdue.1 [
    | inl t6 ↦
        let first = sym (any_first (λ time. nat_lt settings.t6 (entry.time - time)) (overdue_falls entry.time settings.t6) view.sent_control (run_timely settings log run).requests) ∙ t6.1 in
        absurd (let d : true ≡ false = sym first ∙ none in cc)
    | inr t7 ↦ t7
  ]

  cut_by : (oldest : Option Transaction) → first_of view.sent_control ≡ oldest → (first : Entry) × IsCutFirst first
  cut_by None is =
      by_t7 (only_t7 (ap (passes (λ opened. nat_lt settings.t6 (entry.time - opened.time))) is)) (ap (λ o. cut view entry.time o) is)
  cut_by (Some opened) is = elim (cases_Bool (nat_lt settings.t6 (entry.time - opened.time))) [
    | inl late ↦ by_t6 opened is late
    | inr not_late ↦
        let time = expiry_of view entry.time opened.time settings.t6 in
        by_t7 (only_t7 (ap (passes (λ other. nat_lt settings.t6 (entry.time - other.time))) is ∙ not_late))
        (ap (λ o. cut view entry.time o) is ∙ ap (λ b. cond b (CutFirst time T6) (cut_by_t7 view entry.time)) not_late)
  ]

  cut_found : (first : Entry) × IsCutFirst first
  cut_found = cut_by (first_of view.sent_control) refl

  -- Holds for a cut before an entry: the session has then ended, and the number of waiting primaries does not increase.
  record IsCutBefore (first : Entry) : Type 0 where
    put : IsPutFirst settings log entry first LinkOverdue
    phase : phase_of (log ++ first ∷ []) ≡ Over
    few : length (open_of SentData (log ++ first ∷ [])) ≤ length (open_of SentData log)

  few_with_cut : (first : Entry) (cause : Cause) → first.event ≡ Cut cause → length (open_of SentData (log ++ first ∷ [])) ≤ length (open_of SentData log)
  few_with_cut first cause is =
      let kept = filter (λ opened. not (is_closed_by SentData (Cut cause) opened)) (open_of SentData log) in
      let sent : open_of SentData (log ++ first ∷ []) ≡ kept ++ [] =
      pool-push SentData log first ∙ ap (λ e. pool_after SentData (open_of SentData log) (entry_of_event first.time e)) is in
      subst (λ l. length l ≤ length (open_of SentData log)) (sym (sent ∙ append-nil kept)) (fewer (λ opened. not (is_closed_by SentData (Cut cause) opened)) (open_of SentData log))

  cut_first : (first : Entry) × IsCutBefore first
  cut_first =
      let (first, is) = cut_found in (
        first,
        record {
          put = record { asked = is.asked; is_valid = broken-view settings log run first None is.is_valid; in_time = is.in_time };
          phase =
              ap (λ v. v.phase) (view-push settings log first) ∙ ap (phase_after (phase_of log)) is.is
              ∙ phase_with_cut (phase_of log) is.cause timed.1;
          few = few_with_cut first is.cause is.is;
        },
      )

-- ---- entry by entry

-- Holds if neither the time nor a timer breaks the rule.
abbrev IsOther : Rule → Type 0
IsOther Backwards = ⊥
IsOther T3Overdue = ⊥
IsOther LinkOverdue = ⊥
IsOther rule = Unit {0}

more_of : {settings : Parameters} {Holds : List Entry → Type 0} {log : List Entry} {entry : Entry} (one other : ℕ) → one ≤ other → Within settings Holds one log entry
    → Within settings Holds other log entry
more_of one other le w =
    let few : judgements w.steps ≤ one = w.few in
    record { steps = w.steps; put = w.put; entry_repaired = w.entry_repaired; few = omega arith; holds = w.holds }

module _ (some : SomeTextAnswer) (not_both : NotBothOfText) (settings : Parameters) where
  -- Holds for an entry in a phase of some kind, if its repair is known unless a timer is the cause of its failure.
  record Handled (entry : Entry) (Holds : List Entry → Type 0) (Fits : Phase → Type 0) (more : ℕ) : Type 0 where
    fits : HasOctets entry.event
    some_more : 1 ≤ more
    over : Fits Over
    is_valid : (log : List Entry) → IsRun settings log → FirstAt settings log entry None → Holds (log ++ entry ∷ [])
    others : (waiting : ℕ) (log : List Entry) → IsRun settings log → IsTimelyAt settings log entry → Fits (phase_of log)
        → length (open_of SentData log) ≤ waiting → (rule : Rule) → IsOther rule → FirstAt settings log entry (Some rule)
        → Within settings Holds (waiting * 2 + more) log entry

  module _ (entry : Entry) (Holds : List Entry → Type 0) (Fits : Phase → Type 0) (more : ℕ) (handled : Handled entry Holds Fits more) where
    -- The result after a log in which this many primaries wait.
    abbrev Found : ℕ → ℕ → Type 0
    Found waiting most =
        (log : List Entry) → IsRun settings log → IsTimelyAt settings log entry → Fits (phase_of log) → length (open_of SentData log) ≤ waiting
        → Within settings Holds most log entry

    next_timely : (log : List Entry) (first : Entry) → first.time ≤ entry.time → IsTimelyAt settings (log ++ first ∷ []) entry
    next_timely log first le = subst (λ v. v.last_time ≤ entry.time) (sym (view-push settings log first)) le

    not_past : (log : List Entry) → IsTimelyAt settings log entry → BreaksAt settings log entry Backwards → ⊥
    not_past log timely past = absurd (omega (arith, timely, past))

    -- After the session has ended, no timer runs.
    when_over : (waiting : ℕ) (log : List Entry) → IsRun settings log → IsTimelyAt settings log entry → phase_of log ≡ Over → length (open_of SentData log) ≤ waiting
        → (answer : Option Rule) → FirstAt settings log entry answer → Within settings Holds (waiting * 2 + more) log entry
    when_over waiting log run timely over few None h =
        let some = handled.some_more in
        passed settings Holds (waiting * 2 + more) log entry run h (handled.is_valid log run h) (omega (arith, some))
    when_over waiting log run timely over few (Some Backwards) h = absurd (not_past log timely (applies (BreaksAt settings log entry) all_rules Backwards h))
    when_over waiting log run timely over few (Some T3Overdue) h = absurd ((applies (BreaksAt settings log entry) all_rules T3Overdue h).1.0.0 over)
    when_over waiting log run timely over few (Some LinkOverdue) h =
        let overdue = applies (BreaksAt settings log entry) all_rules LinkOverdue h in
        absurd (elim overdue.1 [ inl t6 ↦ t6.0.0 over | inr t7 ↦ t7.0.0 over ])
    when_over waiting log run timely over few (Some rule) h =
        handled.others waiting log run timely (subst Fits (sym over) handled.over) few rule tt h

    -- If a timer is the cause of its failure, the timer's expiry is inserted.
    by_answer : (waiting : ℕ)
        → ((log : List Entry) → IsRun settings log → IsTimelyAt settings log entry → Fits (phase_of log) → suc (length (open_of SentData log)) ≤ waiting
        → Within settings Holds (waiting * 2 + more) log entry)
        → (log : List Entry) → IsRun settings log → IsTimelyAt settings log entry → Fits (phase_of log) → length (open_of SentData log) ≤ waiting
        → (answer : Option Rule) → FirstAt settings log entry answer → Within settings Holds (waiting * 2 + more + 2) log entry
    by_answer waiting next log run timely fits few None h =
        let some = handled.some_more in
        passed settings Holds (waiting * 2 + more + 2) log entry run h (handled.is_valid log run h) (omega (arith, some))
    by_answer waiting next log run timely fits few (Some Backwards) h = absurd (not_past log timely (applies (BreaksAt settings log entry) all_rules Backwards h))
    by_answer waiting next log run timely fits few (Some T3Overdue) h =
        let (first, is) = expiry_first some not_both settings log entry run timely h in
        let longer = run-push settings log first run is.put.is_valid in
        let fewer_wait = is.fewer in
        let later = next (log ++ first ∷ []) longer (next_timely log first is.put.in_time) (subst Fits (sym is.phase) fits) (omega (arith, fewer_wait, few)) in
        more_of (suc (1 + (waiting * 2 + more))) (waiting * 2 + more + 2) (omega arith)
        (subsequent settings Holds (waiting * 2 + more) log entry first T3Overdue run h is.put later)
    by_answer waiting next log run timely fits few (Some LinkOverdue) h =
        let (first, is) = cut_first settings log entry run timely h in
        let longer = run-push settings log first run is.put.is_valid in
        let answer = returned_result some not_both (view_of settings (log ++ first ∷ [])) settings entry handled.fits in
        let no_more = is.few in
        let later = when_over waiting (log ++ first ∷ []) longer (next_timely log first is.put.in_time) is.phase (omega (arith, no_more, few)) answer.0 answer.1 in
        more_of (suc (1 + (waiting * 2 + more))) (waiting * 2 + more + 2) (omega arith)
        (subsequent settings Holds (waiting * 2 + more) log entry first LinkOverdue run h is.put later)
    by_answer waiting next log run timely fits few (Some rule) h =
        more_of (waiting * 2 + more) (waiting * 2 + more + 2) (omega arith) (handled.others waiting log run timely fits few rule tt h)

    answered : (log : List Entry) → (answer : Option Rule) × FirstAt settings log entry answer
    answered log = returned_result some not_both (view_of settings log) settings entry handled.fits

    go : (waiting : ℕ) → Found waiting (waiting * 2 + more + 2)
    go zero log run timely fits few =
        by_answer zero (λ later r t f le. absurd (omega (arith, le))) log run timely fits few (answered log).0 (answered log).1
    go (suc waiting) log run timely fits few =
        by_answer (suc waiting) (λ later r t f le. more_of (waiting * 2 + more + 2) (suc waiting * 2 + more) (omega arith) (go waiting later r t f (omega (arith, le))))
        log run timely fits few (answered log).0 (answered log).1

  -- ---- each event

  abbrev AnyPhase : Phase → Type 0
  AnyPhase phase = Unit {0}

  left_out : (named_rule : View) (entry : Entry) → discarded entry.event ≡ LeaveOut → missing_down named_rule entry.time entry.event ≡ LeaveOut
      → (rule : Rule) → IsOther rule → repair_of named_rule entry rule ≡ LeaveOut
  left_out named_rule entry discards lacks Backwards is = absurd is
  left_out named_rule entry discards lacks T3Overdue is = absurd is
  left_out named_rule entry discards lacks LinkOverdue is = absurd is
  left_out named_rule entry discards lacks NotUp is = lacks
  left_out named_rule entry discards lacks NotDue is = refl
  left_out named_rule entry discards lacks NoCause is = refl
  left_out named_rule entry discards lacks rule is = discards

  -- An event that is neither accepted nor an `up` is omitted.
  plain : (entry : Entry) → HasOctets entry.event → discarded entry.event ≡ LeaveOut → ((view : View) → missing_down view entry.time entry.event ≡ LeaveOut)
      → Handled entry Anything AnyPhase 1
  plain entry fits discards lacks = record {
    fits = fits;
    some_more = omega arith;
    over = tt;
    is_valid = λ log run h. tt;
    others = λ waiting log run timely any few rule is h. omitted settings Anything (waiting * 2 + 1) log entry rule run h
        (ap (λ r. change_by r entry) (left_out (view_of settings log) entry discards (lacks (view_of settings log)) rule is)) tt (omega arith);
  }

  -- An accepted frame is discarded.
  module _ (time : ℕ) (frame : Frame) (octets : IsOctets frame.text) where
    taken_others : (waiting : ℕ) (log : List Entry) → IsRun settings log → IsTimelyAt settings log (entry_of_event time (Taken frame))
        → length (open_of SentData log) ≤ waiting → (rule : Rule) → IsOther rule → FirstAt settings log (entry_of_event time (Taken frame)) (Some rule)
        → Within settings Anything (waiting * 2 + 4) log (entry_of_event time (Taken frame))
    taken_others waiting log run timely few Backwards is h = absurd is
    taken_others waiting log run timely few T3Overdue is h = absurd is
    taken_others waiting log run timely few LinkOverdue is h = absurd is
    taken_others waiting log run timely few NotUp is h = omitted settings Anything (waiting * 2 + 4) log _ NotUp run h refl tt (omega arith)
    taken_others waiting log run timely few NotDue is h = omitted settings Anything (waiting * 2 + 4) log _ NotDue run h refl tt (omega arith)
    taken_others waiting log run timely few NoCause is h = omitted settings Anything (waiting * 2 + 4) log _ NoCause run h refl tt (omega arith)
    taken_others waiting log run timely few rule is h = thrown_away_by rule h refl
      where
        thrown_away_by : (rule : Rule) → FirstAt settings log (entry_of_event time (Taken frame)) (Some rule)
            → change_by (repair_of (view_of settings log) (entry_of_event time (Taken frame)) rule) (entry_of_event time (Taken frame)) ≡ Other (entry_of_event time (Discarded frame))
            → Within settings Anything (waiting * 2 + 4) log (entry_of_event time (Taken frame))
        thrown_away_by rule h asked =
            let next = entry_of_event time (Discarded frame) in
            let found = go next Anything AnyPhase 1 (plain next octets refl (λ view. refl)) waiting log run timely tt few in
            more_of (suc (waiting * 2 + 1 + 2)) (waiting * 2 + 4) (omega arith) (changed settings Anything (waiting * 2 + 1 + 2) log _ next rule run h asked found)

    taken : Handled (entry_of_event time (Taken frame)) Anything AnyPhase 4
    taken = record {
      fits = octets;
      some_more = omega arith;
      over = tt;
      is_valid = λ log run h. tt;
      others = λ waiting log run timely any few rule is h. taken_others waiting log run timely few rule is h;
    }

  -- A `down` of an established connection becomes the last entry.
  module _ (time : ℕ) where
    abbrev IsDownAt : List Entry → Type 0
    IsDownAt log = (phase_of log ≡ Gone) × ((view_of settings log).last_time ≡ time)

    abbrev IsUpPhase : Phase → Type 0
    IsUpPhase phase = is_connected phase ≡ true

    phase_with_down : (phase : Phase) → phase_after phase Down ≡ Gone
    phase_with_down Before = refl
    phase_with_down NotSelected = refl
    phase_with_down Selected = refl
    phase_with_down Over = refl
    phase_with_down Gone = refl

    never_missing : (phase : Phase) → is_connected phase ≡ true → (((phase ≡ Before → ⊥) → ⊥) ⊎ (phase ≡ Gone)) → ⊥
    never_missing Before up lacks = absurd (let d : false ≡ true = up in cc)
    never_missing Gone up lacks = absurd (let d : false ≡ true = up in cc)
    never_missing NotSelected up lacks = elim lacks [ inl begun ↦ begun (λ e. cc) | inr gone ↦ cc ]
    never_missing Selected up lacks = elim lacks [ inl begun ↦ begun (λ e. cc) | inr gone ↦ cc ]
    never_missing Over up lacks = elim lacks [ inl begun ↦ begun (λ e. cc) | inr gone ↦ cc ]

    down_breaks : (log : List Entry) → is_connected (phase_of log) ≡ true → (rule : Rule) → IsOther rule → BreaksAt settings log (entry_of_event time Down) rule → ⊥
    down_breaks log up Backwards is b = is
    down_breaks log up T3Overdue is b = is
    down_breaks log up LinkOverdue is b = is
    down_breaks log up NotUp is b = never_missing (phase_of log) up b
    down_breaks log up Ended is b = absurd (let d : false ≡ true = b.0 in cc)
    down_breaks log up rule is b = b

    down : Handled (entry_of_event time Down) IsDownAt IsUpPhase 1
    down = record {
      fits = tt;
      some_more = omega arith;
      over = refl;
      is_valid = λ log run h. (
        ap (λ v. v.phase) (view-push settings log (entry_of_event time Down)) ∙ phase_with_down (phase_of log),
        ap (λ v. v.last_time) (view-push settings log (entry_of_event time Down)),
      );
      others = λ waiting log run timely up few rule is h.
          absurd (down_breaks log up rule is (applies (BreaksAt settings log (entry_of_event time Down)) all_rules rule h));
    }

    -- Then an `up` is valid, if the log may have several connections.
    up_valid : (log : List Entry) → IsRun settings log → settings.version ≡ 2 → IsDownAt log → FirstAt settings log (entry_of_event time Up) None
    up_valid log run two is =
        let last = is.1 in
        none_never (BreaksAt settings log (entry_of_event time Up)) all_rules
        ((λ past. absurd (omega (arith, past, last))), ((λ lacks. lacks.1 (two, is.0)), ((λ ended. let d : false ≡ true = ended.0 in cc), late_up (facts_of (view_of settings log)) is.0 settings time)))

    up_not_up : (waiting : ℕ) (log : List Entry) → IsRun settings log → IsTimelyAt settings log (entry_of_event time Up)
        → length (open_of SentData log) ≤ waiting → FirstAt settings log (entry_of_event time Up) (Some NotUp)
        → Within settings Anything (waiting * 2 + 5) log (entry_of_event time Up)
    up_not_up waiting log run timely few h = elim (cases_Bool ((settings.version == 2) && is_connected (phase_of log))) [
      | inl several ↦
          let parts = and_parts (settings.version == 2) (is_connected (phase_of log)) several in
          let two = eqb-true settings.version 2 parts.0 in
          let one = go (entry_of_event time Down) IsDownAt IsUpPhase 1 down waiting log run timely parts.1 few in
          let longer = repaired_is_run settings log one.steps (entry_of_event time Down) one.put run one.entry_repaired in
          let then_up = passed settings Anything 1 (log ++ one.put) (entry_of_event time Up) longer (up_valid (log ++ one.put) longer two one.holds) tt (omega arith) in
          more_of (suc ((waiting * 2 + 1 + 2) + 1)) (waiting * 2 + 5) (omega arith)
          (preceded settings Anything IsDownAt (waiting * 2 + 1 + 2) 1 log (entry_of_event time Up) (entry_of_event time Down) NotUp run h
          (ap (λ b. change_by (cond b (DownFirst time) LeaveOut) (entry_of_event time Up)) several) one then_up)
      | inr single ↦
          omitted settings Anything (waiting * 2 + 5) log (entry_of_event time Up) NotUp run h
          (ap (λ b. change_by (cond b (DownFirst time) LeaveOut) (entry_of_event time Up)) single) tt (omega arith)
    ]

    up_others : (waiting : ℕ) (log : List Entry) → IsRun settings log → IsTimelyAt settings log (entry_of_event time Up)
        → length (open_of SentData log) ≤ waiting → (rule : Rule) → IsOther rule → FirstAt settings log (entry_of_event time Up) (Some rule)
        → Within settings Anything (waiting * 2 + 5) log (entry_of_event time Up)
    up_others waiting log run timely few Backwards is h = absurd is
    up_others waiting log run timely few T3Overdue is h = absurd is
    up_others waiting log run timely few LinkOverdue is h = absurd is
    up_others waiting log run timely few NotUp is h = up_not_up waiting log run timely few h
    up_others waiting log run timely few rule is h = omitted settings Anything (waiting * 2 + 5) log (entry_of_event time Up) rule run h refl tt (omega arith)

    up : Handled (entry_of_event time Up) Anything AnyPhase 5
    up = record {
      fits = tt;
      some_more = omega arith;
      over = tt;
      is_valid = λ log run h. tt;
      others = λ waiting log run timely any few rule is h. up_others waiting log run timely few rule is h;
    }

  -- ---- all together

  plain_within : (entry : Entry) → HasOctets entry.event → discarded entry.event ≡ LeaveOut → ((view : View) → missing_down view entry.time entry.event ≡ LeaveOut)
      → (log : List Entry) → IsRun settings log → IsTimelyAt settings log entry → Within settings Anything (length (open_of SentData log) * 2 + 7) log entry
  plain_within entry fits discards lacks log run timely =
      let waiting = length (open_of SentData log) in
      more_of (waiting * 2 + 1 + 2) (waiting * 2 + 7) (omega arith) (go entry Anything AnyPhase 1 (plain entry fits discards lacks) waiting log run timely tt (omega arith))

  timely_within : (time : ℕ) (event : Event) → HasOctets event → (log : List Entry) → IsRun settings log → IsTimelyAt settings log (entry_of_event time event)
      → Within settings Anything (length (open_of SentData log) * 2 + 7) log (entry_of_event time event)
  timely_within time Up fits log run timely =
      let waiting = length (open_of SentData log) in
      more_of (waiting * 2 + 5 + 2) (waiting * 2 + 7) (omega arith) (go _ Anything AnyPhase 5 (up time) waiting log run timely tt (omega arith))
  timely_within time (Taken frame) fits log run timely =
      let waiting = length (open_of SentData log) in
      more_of (waiting * 2 + 4 + 2) (waiting * 2 + 7) (omega arith) (go _ Anything AnyPhase 4 (taken time frame fits) waiting log run timely tt (omega arith))
  timely_within time (Sent frame) fits log run timely = plain_within _ fits refl (λ view. refl) log run timely
  timely_within time (Discarded frame) fits log run timely = plain_within _ fits refl (λ view. refl) log run timely
  timely_within time (T3 system) fits log run timely = plain_within _ fits refl (λ view. refl) log run timely
  timely_within time (Cut cause) fits log run timely = plain_within _ fits refl (λ view. refl) log run timely
  timely_within time Down fits log run timely = plain_within _ fits refl (λ view. refl) log run timely

  pub repaired_within : (log : List Entry) (entry : Entry) → IsRun settings log → HasOctets entry.event → Within settings Anything (length (open_of SentData log) * 2 + 8) log entry
  repaired_within log entry run fits = elim (cases_lt entry.time (view_of settings log).last_time) [
    | inl past ↦
        let waiting = length (open_of SentData log) in
        let last = (view_of settings log).last_time in
        more_of (suc (waiting * 2 + 7)) (waiting * 2 + 8) (omega arith)
        (changed settings Anything (waiting * 2 + 7) log entry (entry_of_event last entry.event) Backwards run (inl (past, refl)) refl
        (timely_within last entry.event fits log run (omega arith)))
    | inr timely ↦
        let waiting = length (open_of SentData log) in
        more_of (waiting * 2 + 7) (waiting * 2 + 8) (omega arith) (timely_within entry.time entry.event fits log run timely)
  ]

module _ (some : SomeTextAnswer) (not_both : NotBothOfText) where
  pub each_one_repaired : EachEntryIsRepaired
  each_one_repaired settings log entry run fits =
      let found = repaired_within some not_both settings log entry run fits in
      (found.steps, found.put, found.entry_repaired, found.few)

  -- ---- a complete log

  log_repaired : (settings : Parameters) (before log : List Entry) → IsRun settings before → AllHaveOctets log
      → (repaired : List Entry) × IsRepaired settings before log repaired
  log_repaired settings before [] run fit = ([], refl)
  log_repaired settings before (entry ∷ entries) run fit =
      let found = each_one_repaired settings before entry run fit.0 in
      let put = found.1 in
      let later = log_repaired settings (before ++ put) entries (repaired_is_run settings before found.0 entry put run found.2) fit.1 in
      (put ++ later.0, (found.0, put, later.0, found.2, later.1, refl))

  pub each_repaired : EachLogIsRepaired
  each_repaired settings log fit = log_repaired settings [] log (empty_run settings) fit

-- ---- only one way

one_change : (settings : Parameters) (log : List Entry) (entry : Entry) (one other : Change) → Asks settings log entry one → Asks settings log entry other → one ≡ other
one_change settings log entry one other h k =
    let rules : Some h.0 ≡ Some k.0 = one_first settings log entry (Some h.0) (Some k.0) h.1 k.1 in
    let same : h.0 ≡ k.0 = cc in
    sym h.2 ∙ ap (λ rule. change_by (repair_of (view_of settings log) entry rule) entry) same ∙ k.2

pub repaired_uniquely : NoEntryIsRepairedTwice
repaired_uniquely settings log Passed Passed entry put others h k = (refl, h.1 ∙ sym k.1)
repaired_uniquely settings log Passed LeftOut entry put others h k = absurd (asks_not settings log entry Without h.0 k.0)
repaired_uniquely settings log Passed (Changed steps) entry put others h k = absurd (asks_not settings log entry (Other k.0) h.0 k.1)
repaired_uniquely settings log Passed (Preceded one more) entry put others h k = absurd (asks_not settings log entry (First k.0) h.0 k.3)
repaired_uniquely settings log LeftOut Passed entry put others h k = absurd (asks_not settings log entry Without k.0 h.0)
repaired_uniquely settings log LeftOut LeftOut entry put others h k = (refl, h.1 ∙ sym k.1)
repaired_uniquely settings log LeftOut (Changed steps) entry put others h k = absurd (let e = one_change settings log entry Without (Other k.0) h.0 k.1 in cc)
repaired_uniquely settings log LeftOut (Preceded one more) entry put others h k = absurd (let e = one_change settings log entry Without (First k.0) h.0 k.3 in cc)
repaired_uniquely settings log (Changed steps) Passed entry put others h k = absurd (asks_not settings log entry (Other h.0) k.0 h.1)
repaired_uniquely settings log (Changed steps) LeftOut entry put others h k = absurd (let e = one_change settings log entry (Other h.0) Without h.1 k.0 in cc)
repaired_uniquely settings log (Changed steps) (Changed more) entry put others h k =
    let e = one_change settings log entry (Other h.0) (Other k.0) h.1 k.1 in
    let same : h.0 ≡ k.0 = cc in
    let later = repaired_uniquely settings log steps more h.0 put others h.2 (subst (λ x. RepairedBy settings log more x others) (sym same) k.2) in
    (ap Changed later.0, later.1)
repaired_uniquely settings log (Changed steps) (Preceded one more) entry put others h k = absurd (let e = one_change settings log entry (Other h.0) (First k.0) h.1 k.3 in cc)
repaired_uniquely settings log (Preceded one more) Passed entry put others h k = absurd (asks_not settings log entry (First h.0) k.0 h.3)
repaired_uniquely settings log (Preceded one more) LeftOut entry put others h k = absurd (let e = one_change settings log entry (First h.0) Without h.3 k.0 in cc)
repaired_uniquely settings log (Preceded one more) (Changed steps) entry put others h k = absurd (let e = one_change settings log entry (First h.0) (Other k.0) h.3 k.1 in cc)
repaired_uniquely settings log (Preceded one more) (Preceded other rest) entry put others h k =
    let e = one_change settings log entry (First h.0) (First k.0) h.3 k.3 in
    let same : h.0 ≡ k.0 = cc in
    let first = repaired_uniquely settings log one other h.0 h.1 k.1 h.4 (subst (λ x. RepairedBy settings log other x k.1) (sym same) k.4) in
    let later = repaired_uniquely settings (log ++ h.1) more rest entry h.2 k.2 h.5 (subst (λ x. RepairedBy settings (log ++ x) rest entry k.2) (sym first.1) k.5) in
    (ap (λ s. Preceded s more) first.0 ∙ ap (Preceded other) later.0, h.6 ∙ ap (λ x. x ++ h.2) first.1 ∙ ap (λ x. k.1 ++ x) later.1 ∙ sym k.6)

repaired_once : (settings : Parameters) (before log one other : List Entry) → IsRepaired settings before log one → IsRepaired settings before log other → one ≡ other
repaired_once settings before [] one other h k = h ∙ sym k
repaired_once settings before (entry ∷ entries) one other h k =
    let here = (repaired_uniquely settings before h.0 k.0 entry h.1 k.1 h.3 k.3).1 in
    let later = repaired_once settings (before ++ h.1) entries h.2 k.2 h.4 (subst (λ x. IsRepaired settings (before ++ x) entries k.2) (sym here) k.4) in
    h.5 ∙ ap (λ x. x ++ h.2) here ∙ ap (λ x. k.1 ++ x) later ∙ sym k.5

pub repaired_alone : NoLogIsRepairedTwice
repaired_alone settings log one other h k = repaired_once settings [] log one other h k

-- ---- a cut

pub cut_put : SomeTextAnswer → NotBothOfText → CutPutIsValid
cut_put some not_both settings log entry first run h fits put =
    let answer = returned_result some not_both (view_of settings log) settings entry fits in
    let is : answer.0 ≡ Some LinkOverdue = one_first settings log entry answer.0 (Some LinkOverdue) (broken-view settings log run entry answer.0 answer.1) h in
    let named_rule = subst (FirstAt settings log entry) is answer.1 in
    let not_past = (not_first (BreaksAt settings log entry) Backwards (NotUp ∷ Ended ∷ T3Overdue ∷ after_t3_rules) LinkOverdue (λ e. cc) named_rule).0 in
    let timely : IsTimelyAt settings log entry = elim (cases_lt entry.time (view_of settings log).last_time) [ inl past ↦ absurd (not_past past) | inr le ↦ le ] in
    let (found, before) = cut_first settings log entry run timely named_rule in
    let e : First found ≡ First first = sym before.put.asked ∙ put in
    let same : found ≡ first = cc in
    subst (λ x. Broken settings log x None) same before.put.is_valid
