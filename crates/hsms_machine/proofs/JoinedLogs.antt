-- Runs of single connections, one after the other, are a run of several connections.
use Rattle.std.proofs.Common.{◌≡◌, ℕ, ◌+◌, ◌-◌, ◌<◌, ◌≤◌, Bool, true, false, ◌&&◌, List, [], ◌∷◌, ◌++◌, length, length-append, None, inl, inr, refl, sym, ap, subst, ◌∙◌, arith}
use Rattle.std.proofs.lemmas.Bool.{cases_lt}
use Rattle.std.proofs.lemmas.List.{append-nil, get_or-append-add, get_or_append_left}
use Rattle.hsms_machine.specs.declared.entry.Entry.{Entry}
use Rattle.hsms_machine.specs.declared.entry.Event.{Event}
use Rattle.hsms_machine.specs.declared.entry.Event.TheVariants.{Up}
use Rattle.hsms_machine.specs.declared.rule.Rule.{Rule}
use Rattle.hsms_machine.specs.declared.rule.Rule.TheVariants.{NotUp}
use Rattle.hsms_machine.specs.declared.open_transactions.Transaction.{Transaction}
use Rattle.hsms_machine.specs.Settings.{Parameters, several_of}
use Rattle.hsms_machine.specs.Entry.{entry_at, is_up, is_down, IsOnConnection, SomeBefore}
use Rattle.hsms_machine.specs.Message.{has_right_session, has_right_direction}
use Rattle.hsms_machine.specs.Transaction.{Pool, opens, closes, opened_as, IsOpen, passes, SomeOpen}
use Rattle.hsms_machine.specs.Session.{Facts, FollowsDown, facts_before, selects, ends_session}
use Rattle.hsms_machine.specs.Rule.{Breaks, IsNotUp, IsFirst, all_rules}
use Rattle.hsms_machine.specs.Run.{IsRun}
use Rattle.hsms_machine.specs.Laws.{EndsDown, ContinuesWith, joined, RunIsRunOfSeveral, SingleRunOfSeveralIsRun, JoinedRunsAreARun, JoinedConnectionsAreARun}
use Rattle.hsms_machine.proofs.Connection.{on-before, on-no_up, on-where}
use Rattle.hsms_machine.proofs.SameFacts.{FactsAgree, first_broken-facts_agree, Never, never_from, none_never, late_up}
use Rattle.hsms_machine.proofs.ViewsOfRuns.{first_up}
use Rattle.hsms_machine.proofs.Runs.{facts-same, append-same, empty_run}

-- ---- version 1 as version 2

never_map : (P Q : Rule → Type 0) (rules : List Rule) → ((r : Rule) → Q r → P r) → Never P rules → Never Q rules
never_map P Q [] from n = tt
never_map P Q (r ∷ rs) from n = ((λ q. n.0 (from r q)), never_map P Q rs from n.1)

module _ (settings : Parameters) (F : Facts) where
  not_up-of : (event : Event) → IsNotUp F (several_of settings) event → IsNotUp F settings event
  not_up-of Up b = (b.0, (λ c. b.1 (refl, c.1)))
  not_up-of event b = b

  -- A rule that an entry breaks in a log of several connections, it also breaks in a log of one.
  breaks-of : (entry : Entry) (r : Rule) → Breaks F (several_of settings) entry r → Breaks F settings entry r
  unfolding has_right_session has_right_direction
  breaks-of entry NotUp b = not_up-of entry.event b
  breaks-of entry r b = b

pub run-several : RunIsRunOfSeveral
unfolding IsRun
run-several settings log run i lt =
    let F = facts_before log i in
    let entry = entry_at log i in
    none_never (Breaks F (several_of settings) entry) all_rules
    (never_map (Breaks F settings entry) (Breaks F (several_of settings) entry) all_rules (breaks-of settings F entry) (never_from (Breaks F settings entry) all_rules (run i lt)))

-- The converse, if an `up` is only the first entry.
module _ (settings : Parameters) (F : Facts) (event : Event) (single : is_up event ≡ true → F.HasEntry → ⊥) where
  not_up-back : (e : Event) → e ≡ event → IsNotUp F settings e → IsNotUp F (several_of settings) e
  not_up-back Up is b = absurd (single (ap is_up (sym is)) b.0)
  not_up-back e is b = b

  breaks-back : (time : ℕ) (r : Rule) → Breaks F settings (record { time = time; event = event }) r → Breaks F (several_of settings) (record { time = time; event = event }) r
  unfolding has_right_session has_right_direction
  breaks-back time NotUp b = not_up-back event refl b
  breaks-back time r b = b

pub run-single : SingleRunOfSeveralIsRun
unfolding IsRun
run-single settings log run single i lt =
    let F = facts_before log i in
    let entry = entry_at log i in
    none_never (Breaks F settings entry) all_rules
    (never_map (Breaks F (several_of settings) entry) (Breaks F settings entry) all_rules
    (breaks-back settings F entry.event (λ up pos. (let d : true ≡ false = sym up ∙ single i pos lt in cc)) entry.time) (never_from (Breaks F (several_of settings) entry) all_rules (run i lt)))

-- ---- the facts of the second of two logs, whose first entry is an `up`

module _ (first second : List Entry) (starts : is_up (entry_at second 0).event ≡ true) where
  abbrev whole : List Entry
  whole = first ++ second

  abbrev base : ℕ
  base = length first

  at : (k : ℕ) → entry_at whole (base + k) ≡ entry_at second k
  at k = get_or-append-add first second k (record { time = 0; event = Up })

  at_place : (j k : ℕ) → j ≡ base + k → entry_at whole j ≡ entry_at second k
  at_place j k e = ap (entry_at whole) e ∙ at k

  module _ (i : ℕ) (pos : 0 < i) where
    on-out : (k : ℕ) → IsOnConnection second k i → IsOnConnection whole (base + k) (base + i)
    on-out k h =
        let lt : k < i = on-before second k i h in
        on-where whole (base + k) (base + i) (omega arith)
        (λ m after before.
        ap (λ (x : Entry). is_up x.event) (at_place m (m - base) (omega arith)) ∙ on-no_up second k i h (m - base) (omega arith) (omega arith))

    -- An entry on the connection of the position is in the second log.
    on-in : (j : ℕ) → IsOnConnection whole j (base + i) → (k : ℕ) × (j ≡ base + k) × IsOnConnection second k i
    on-in j h =
        let lt : j < base + i = on-before whole j (base + i) h in
        elim (cases_lt j base) [
          | inl before ↦
              let none : is_up (entry_at whole base).event ≡ false = on-no_up whole j (base + i) h base before (omega arith) in
              let up : is_up (entry_at whole base).event ≡ true = ap (λ (x : Entry). is_up x.event) (at_place base 0 (omega arith)) ∙ starts in
              absurd (let d : true ≡ false = sym up ∙ none in cc)
          | inr le ↦ (
            j - base,
            omega arith,
            on-where second (j - base) i (omega arith)
                (λ m after before.
                sym (ap (λ (x : Entry). is_up x.event) (at m)) ∙ on-no_up whole j (base + i) h (base + m) (omega arith) (omega arith)),
          )
        ]

    some-out : (test : Entry → Bool) → SomeBefore second i test → SomeBefore whole (base + i) test
    some-out test s = (base + s.0, on-out s.0 s.1, subst (λ x. test x ≡ true) (sym (at s.0)) s.2)

    some-in : (test : Entry → Bool) → SomeBefore whole (base + i) test → SomeBefore second i test
    some-in test s =
        let p = on-in s.0 s.1 in
        (p.0, p.2, subst (λ x. test x ≡ true) (at_place s.0 p.0 p.1) s.2)

    closes_at : (j k m n : ℕ) → j ≡ base + m → k ≡ base + n → closes (entry_at whole j).event (entry_at whole k).event ≡ closes (entry_at second m).event (entry_at second n).event
    closes_at j k m n e f =
        ap (λ x. closes x.event (entry_at whole k).event) (at_place j m e)
        ∙ ap (λ x. closes (entry_at second m).event x.event) (at_place k n f)

    open-out : (j : ℕ) → IsOpen second j i → IsOpen whole (base + j) (base + i)
    open-out j h = record {
      opened = subst (λ x. opens x.event ≡ true) (sym (at j)) h.opened;
      earlier = on-out j h.earlier;
      not_closed = λ k lt gt c.
          h.not_closed (k - base) (omega arith) (omega arith) (sym (closes_at (base + j) k j (k - base) refl (omega arith)) ∙ c);
    }

    open-in : (j k : ℕ) → j ≡ base + k → IsOnConnection second k i → IsOpen whole j (base + i) → IsOpen second k i
    open-in j k e on h = record {
      opened = subst (λ x. opens x.event ≡ true) (at_place j k e) h.opened;
      earlier = on;
      not_closed = λ m lt gt c.
          h.not_closed (base + m) (omega arith) (omega arith) (closes_at j (base + m) k m e refl ∙ c);
    }

    some_open-out : (pool : Pool) (test : Transaction → Bool) → SomeOpen second i pool test → SomeOpen whole (base + i) pool test
    some_open-out pool test s = (base + s.0, open-out s.0 s.1, subst (λ x. passes test (opened_as pool x) ≡ true) (sym (at s.0)) s.2)

    some_open-in : (pool : Pool) (test : Transaction → Bool) → SomeOpen whole (base + i) pool test → SomeOpen second i pool test
    some_open-in pool test s =
        let p = on-in s.0 s.1.earlier in
        (p.0, open-in s.0 p.0 p.1 p.2 s.1, subst (λ x. passes test (opened_as pool x) ≡ true) (at_place s.0 p.0 p.1) s.2)

    past-out : (time : ℕ) → (facts_before second i).IsPast time → (facts_before whole (base + i)).IsPast time
    past-out time s = (base + s.0, (let e : s.0 + 1 ≡ i = s.1 in omega arith), subst (λ x. time < x.time) (sym (at s.0)) s.2)

    past-in : (time : ℕ) → (facts_before whole (base + i)).IsPast time → (facts_before second i).IsPast time
    past-in time s =
        let e : s.0 + 1 ≡ base + i = s.1 in
        (s.0 - base, omega arith, subst (λ x. time < x.time) (at_place s.0 (s.0 - base) (omega arith)) s.2)

    follows-out : FollowsDown second i → FollowsDown whole (base + i)
    follows-out s = (base + s.0, (let e : s.0 + 1 ≡ i = s.1 in omega arith), subst (λ x. is_down x.event ≡ true) (sym (at s.0)) s.2)

    follows-in : FollowsDown whole (base + i) → FollowsDown second i
    follows-in s =
        let e : s.0 + 1 ≡ base + i = s.1 in
        (s.0 - base, omega arith, subst (λ x. is_down x.event ≡ true) (at_place s.0 (s.0 - base) (omega arith)) s.2)

    -- After its first entry, the second log's facts are those of the complete log.
    facts_agree-joined : FactsAgree (facts_before second i) (facts_before whole (base + i))
    facts_agree-joined = record {
      order = record {
        past = λ time. (past-out time, past-in time);
        entry = ((λ lt. omega arith), (λ lt. pos));
        up = (some-out (λ entry. is_up entry.event), some-in (λ entry. is_up entry.event));
        down = (some-out (λ entry. is_down entry.event), some-in (λ entry. is_down entry.event));
        follows = (follows-out, follows-in);
      };
      up_since = λ test. (some-out (λ entry. is_up entry.event && test entry.time), some-in (λ entry. is_up entry.event && test entry.time));
      selected = (some-out (λ entry. selects entry.event), some-in (λ entry. selects entry.event));
      over = (some-out (λ entry. ends_session entry.event), some-in (λ entry. ends_session entry.event));
      some_open = λ pool test. (some_open-out pool test, some_open-in pool test);
    }

-- ---- the first entry of the second log

-- An `up` of version 2 that directly follows `down`, and is not earlier, breaks no rule.
up_by : (F : Facts) (settings : Parameters) (time : ℕ) → settings.version ≡ 2 → F.FollowsDown → (F.IsPast time → ⊥) → (event : Event) → is_up event ≡ true → IsFirst (Breaks F settings (record { time = time; event = event })) all_rules None
up_by F settings time two down past Up up =
    none_never (Breaks F settings (record { time = time; event = Up })) all_rules
    (past, ((λ b. b.1 (two, down)), ((λ b. (let d : false ≡ true = b.0 in cc)), late_up F down settings time)))
up_by F settings time two down past event up = absurd (let d : false ≡ true = up in cc)

up_after : (F : Facts) (settings : Parameters) (entry : Entry) → settings.version ≡ 2 → F.FollowsDown → (F.IsPast entry.time → ⊥) → is_up entry.event ≡ true → IsFirst (Breaks F settings entry) all_rules None
up_after F settings entry two down past up = up_by F settings entry.time two down past entry.event up

-- ---- joined

module _ (settings : Parameters) (first second : List Entry) (two : settings.version ≡ 2) (run : IsRun settings first) (down : EndsDown first) (next : IsRun settings second) (on : ContinuesWith first second) (some : 0 < length first) where
  abbrev Keeps : ℕ → Type 0
  Keeps i = IsFirst (Breaks (facts_before (first ++ second) i) settings (entry_at (first ++ second) i)) all_rules None

  within_first : (i : ℕ) → i < length first → Keeps i
  unfolding IsRun
  within_first i lt =
      first_broken-facts_agree (facts_before first i) (facts_before (first ++ second) i) (facts-same first (first ++ second) i (append-same first second i (omega arith))) settings (entry_at (first ++ second) i) all_rules None
      (subst (λ x. IsFirst (Breaks (facts_before first i) settings x) all_rules None) (sym (get_or_append_left first second (record { time = 0; event = Up }) i lt)) (run i lt))

  within_second : (k : ℕ) → 0 < k → k < length second → Keeps (length first + k)
  unfolding IsRun
  within_second k pos lt =
      let starts : is_up (entry_at second 0).event ≡ true = first_up settings second next (omega arith) in
      first_broken-facts_agree (facts_before second k) (facts_before (first ++ second) (length first + k)) (facts_agree-joined first second starts k pos) settings (entry_at (first ++ second) (length first + k)) all_rules None
      (subst (λ x. IsFirst (Breaks (facts_before second k) settings x) all_rules None) (sym (at first second starts k)) (next k lt))

  -- The entry at which the logs meet.
  seam : 0 < length second → Keeps (length first)
  seam more =
      let starts : is_up (entry_at second 0).event ≡ true = first_up settings second next more in
      let here : entry_at (first ++ second) (length first) ≡ entry_at second 0 = at_place first second starts (length first) 0 (omega arith) in
      let gone = down some in
      let e : gone.0 + 1 ≡ length first = gone.1 in
      let last : entry_at (first ++ second) gone.0 ≡ entry_at first gone.0 = get_or_append_left first second (record { time = 0; event = Up }) gone.0 (omega arith) in
      let follows : FollowsDown (first ++ second) (length first) = (gone.0, gone.1, subst (λ x. is_down x.event ≡ true) (sym last) gone.2) in
      up_after (facts_before (first ++ second) (length first)) settings (entry_at (first ++ second) (length first)) two follows
      (λ s. no_past s.0 s.1 s.2 here)
      (ap (λ (x : Entry). is_up x.event) here ∙ starts)
    where
      no_past : (k : ℕ) → k + 1 ≡ length first → (entry_at (first ++ second) (length first)).time < (entry_at (first ++ second) k).time → entry_at (first ++ second) (length first) ≡ entry_at second 0 → ⊥
      no_past k e lt here =
          let j : k ≡ length first - 1 = omega arith in
          let last : entry_at (first ++ second) k ≡ entry_at first (length first - 1) =
          get_or_append_left first second (record { time = 0; event = Up }) k (omega arith) ∙ ap (entry_at first) j in
          let a : (entry_at first (length first - 1)).time ≤ (entry_at second 0).time = on some more in
          let b : (entry_at second 0).time < (entry_at first (length first - 1)).time =
          subst (λ x. x.time < (entry_at first (length first - 1)).time) here (subst (λ y. (entry_at (first ++ second) (length first)).time < y.time) last lt) in
          omega arith

  whole-run : IsRun settings (first ++ second)
  unfolding IsRun
  whole-run i lt =
      let all : length (first ++ second) ≡ length first + length second = length-append first second in
      elim (cases_lt i (length first)) as (λ u. Keeps i) [
        | inl before ↦ within_first i before
        | inr le ↦ elim (cases_lt (length first) i) as (λ u. Keeps i) [
          | inl after ↦ subst Keeps (let e : length first + (i - length first) ≡ i = omega arith in e) (within_second (i - length first) (omega arith) (omega arith))
          | inr same ↦ subst Keeps (let e : length first ≡ i = omega arith in e) (seam (omega arith))
        ]
      ]

pub run-joined : JoinedRunsAreARun
run-joined settings [] second two run down next on = next
run-joined settings (x ∷ xs) second two run down next on = whole-run settings (x ∷ xs) second two run down next on (omega arith)

joined-end : (settings : Parameters) (log : List Entry) → IsRun settings log → IsRun settings (log ++ joined [])
joined-end settings log run = subst (IsRun settings) (sym (append-nil log)) run

pub connections-joined : JoinedConnectionsAreARun
connections-joined settings [] are = empty_run (several_of settings)
connections-joined settings (log ∷ []) are = joined-end (several_of settings) log (run-several settings log are.0)
connections-joined settings (log ∷ (next ∷ logs)) are =
    run-joined (several_of settings) log (joined (next ∷ logs)) refl (run-several settings log are.0) (are.1 (omega arith))
    (connections-joined settings (next ∷ logs) are.3) are.2
