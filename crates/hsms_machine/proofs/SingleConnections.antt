-- Version 1 is read like logs of one connection, without the concept of connections.
use Rattle.std.proofs.Common.{◌≡◌, ℕ, ◌+◌, ◌<◌, Bool, true, false, ◌&&◌, List, length, Option, None, inl, inr, refl, arith}
use Rattle.hsms_machine.specs.declared.entry.Entry.{Entry}
use Rattle.hsms_machine.specs.declared.entry.Event.{Event}
use Rattle.hsms_machine.specs.declared.entry.Event.TheVariants.{Up}
use Rattle.hsms_machine.specs.declared.rule.Rule.{Rule}
use Rattle.hsms_machine.specs.declared.open_transactions.Transaction.{Transaction}
use Rattle.hsms_machine.specs.Settings.{Parameters}
use Rattle.hsms_machine.specs.Entry.{entry_at, is_up, is_down, SomeBefore}
use Rattle.hsms_machine.specs.Transaction.{Pool, SomeOpen}
use Rattle.hsms_machine.specs.Session.{FollowsDown, facts_before, selects, ends_session}
use Rattle.hsms_machine.specs.Rule.{Breaks, IsNotUp, IsFirst, all_rules}
use Rattle.hsms_machine.specs.Run.{Broken, IsRun}
use Rattle.hsms_machine.specs.SingleConnection.{SomeEarlier, SomeUnclosed, facts_of_one, IsRunOfOne}
use Rattle.hsms_machine.specs.Laws.{VersionOneKeepsRuns, VersionOneKeepsAnswers, VersionOneIsOneConnection}
use Rattle.hsms_machine.proofs.Connection.{on-before, on-where, on-last, connection-whole}
use Rattle.hsms_machine.proofs.SameFacts.{FactsAgree, facts_agree-sym, first_broken-facts_agree, barred_agrees, never_from}
use Rattle.hsms_machine.proofs.ValidEntries.{follows_cases, one_connection}

-- Up to position i, only the first entry is an `up`.
module _ (log : List Entry) (i : ℕ) (single : (m : ℕ) → 0 < m → m < i → is_up (entry_at log m).event ≡ false) where
  some_to : (test : Entry → Bool) → SomeBefore log i test → SomeEarlier log i test
  some_to test s = (s.0, on-before log s.0 i s.1, s.2)

  some_from : (test : Entry → Bool) → SomeEarlier log i test → SomeBefore log i test
  some_from test s = (s.0, on-where log s.0 i s.1 (λ m after before. single m (omega arith) before), s.2)

  open_to : (pool : Pool) (test : Transaction → Bool) → SomeOpen log i pool test → SomeUnclosed log i pool test
  open_to pool test s = (s.0, record { opened = s.1.opened; earlier = on-before log s.0 i s.1.earlier; not_closed = s.1.not_closed }, s.2)

  open_from : (pool : Pool) (test : Transaction → Bool) → SomeUnclosed log i pool test → SomeOpen log i pool test
  open_from pool test s = (
    s.0,
    record {
      opened = s.1.opened;
      earlier = on-where log s.0 i s.1.earlier (λ m after before. single m (omega arith) before);
      not_closed = s.1.not_closed;
    },
    s.2,
  )

  one_agrees : (FollowsDown log i → ⊥) → FactsAgree (facts_before log i) (facts_of_one log i)
  one_agrees follows = record {
    order = record {
      past = λ time. ((λ s. s), (λ s. s));
      entry = ((λ lt. lt), (λ lt. lt));
      up = (some_to (λ entry. is_up entry.event), some_from (λ entry. is_up entry.event));
      down = (some_to (λ entry. is_down entry.event), some_from (λ entry. is_down entry.event));
      follows = (follows, (λ e. absurd e));
    };
    up_since = λ test. (some_to (λ entry. is_up entry.event && test entry.time), some_from (λ entry. is_up entry.event && test entry.time));
    selected = (some_to (λ entry. selects entry.event), some_from (λ entry. selects entry.event));
    over = (some_to (λ entry. ends_session entry.event), some_from (λ entry. ends_session entry.event));
    some_open = λ pool test. (open_to pool test, open_from pool test);
  }

  module _ (settings : Parameters) (one : settings.version ≡ 1) where
    -- Directly after `down`, each entry breaks the same rule by both definitions.
    barred_before : (event : Event) → FollowsDown log i → IsNotUp (facts_before log i) settings event
    barred_before Up down =
        let next : down.0 + 1 ≡ i = down.1 in
        (omega arith, (λ c. let two : settings.version ≡ 2 = c.0 in omega arith))
    barred_before event down = inr (down.0, on-last log down.0 i down.1, down.2)

    barred_of_one : (event : Event) → FollowsDown log i → IsNotUp (facts_of_one log i) settings event
    barred_of_one Up down = let next : down.0 + 1 ≡ i = down.1 in (omega arith, (λ c. c.1))
    barred_of_one event down = inr (down.0, (let next : down.0 + 1 ≡ i = down.1 in omega arith), down.2)

    pub one_to : (entry : Entry) (a : Option Rule) → IsFirst (Breaks (facts_before log i) settings entry) all_rules a → IsFirst (Breaks (facts_of_one log i) settings entry) all_rules a
    one_to entry a h = elim (follows_cases log i) [
      | inl down ↦ barred_agrees (facts_before log i) (facts_of_one log i) (λ time. ((λ s. s), (λ s. s))) settings entry (barred_before entry.event down) (barred_of_one entry.event down) a h
      | inr not_down ↦ first_broken-facts_agree (facts_before log i) (facts_of_one log i) (one_agrees not_down) settings entry all_rules a h
    ]

    pub one_from : (entry : Entry) (a : Option Rule) → IsFirst (Breaks (facts_of_one log i) settings entry) all_rules a → IsFirst (Breaks (facts_before log i) settings entry) all_rules a
    one_from entry a h = elim (follows_cases log i) [
      | inl down ↦ barred_agrees (facts_of_one log i) (facts_before log i) (λ time. ((λ s. s), (λ s. s))) settings entry (barred_of_one entry.event down) (barred_before entry.event down) a h
      | inr not_down ↦
          first_broken-facts_agree (facts_of_one log i) (facts_before log i) (facts_agree-sym (facts_before log i) (facts_of_one log i) (one_agrees not_down)) settings entry all_rules a h
    ]

not_true : (b : Bool) → (b ≡ true → ⊥) → b ≡ false
not_true true never = absurd (never refl)
not_true false never = refl

-- Only the first entry of a run is an `up`.
single_of_run : (settings : Parameters) (log : List Entry) → settings.version ≡ 1 → IsRun settings log → (m : ℕ) → 0 < m → m < length log → is_up (entry_at log m).event ≡ false
single_of_run settings log one run m pos lt =
    not_true (is_up (entry_at log m).event) (λ up. let first : m ≡ 0 = one_connection settings log run one m lt up in omega arith)

not_up_of_one : (log : List Entry) (m : ℕ) (settings : Parameters) (event : Event) → 0 < m → (IsNotUp (facts_of_one log m) settings event → ⊥) → is_up event ≡ false
not_up_of_one log m settings Up pos obeyed = absurd (obeyed (pos, (λ c. c.1)))
not_up_of_one log m settings event pos obeyed = refl

single_of_one : (settings : Parameters) (log : List Entry) → IsRunOfOne settings log → (m : ℕ) → 0 < m → m < length log → is_up (entry_at log m).event ≡ false
single_of_one settings log run m pos lt =
    not_up_of_one log m settings (entry_at log m).event pos (never_from (Breaks (facts_of_one log m) settings (entry_at log m)) all_rules (run m lt)).1.0

pub keeps_runs : VersionOneKeepsRuns
unfolding IsRun
keeps_runs settings log one = (
  (λ run i lt.
      one_to log i (λ m pos before. single_of_run settings log one run m pos (omega arith)) settings one (entry_at log i) None (run i lt)),
  (λ run i lt.
      one_from log i (λ m pos before. single_of_one settings log run m pos (omega arith)) settings one (entry_at log i) None (run i lt)),
)

pub keeps_answers : VersionOneKeepsAnswers
unfolding Broken
keeps_answers settings log entry answer one run =
    let single : (m : ℕ) → 0 < m → m < length log → is_up (entry_at log m).event ≡ false = single_of_run settings log one run in
    (one_to log (length log) single settings one entry answer, one_from log (length log) single settings one entry answer)

pub is_one_connection : VersionOneIsOneConnection
is_one_connection settings log one run = connection-whole log (single_of_run settings log one run)
