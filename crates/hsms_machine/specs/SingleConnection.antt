-- Logs of one connection, without the concept of connections: each entry before a position counts. A law states that
-- version 1 is read this way.
use Rattle.std.specs.Prelude.{◌≡◌, ℕ, ◌+◌, ◌<◌, Bool, ◌&&◌, List, Option, None, length, IsTrue}
use Rattle.hsms_machine.specs.declared.entry.Entry.{Entry}
use Rattle.hsms_machine.specs.declared.rule.Rule.{Rule}
use Rattle.hsms_machine.specs.declared.open_transactions.Transaction.{Transaction}
use Rattle.hsms_machine.specs.Settings.{Parameters}
use Rattle.hsms_machine.specs.Entry.{entry_at, is_up, is_down}
use Rattle.hsms_machine.specs.Transaction.{Pool, opens, closes, opened_as, passes}
use Rattle.hsms_machine.specs.Session.{Facts, selects, ends_session}
use Rattle.hsms_machine.specs.Rule.{Breaks, IsFirst, all_rules}

-- Holds if some entry before position i passes the test.
abbrev pub SomeEarlier : List Entry → ℕ → (Entry → Bool) → Type 0
SomeEarlier log i test = (k : ℕ) × (k < i) × IsTrue (test (entry_at log k))

-- Holds if the transaction that the entry at j opened is not closed before position i.
pub record IsUnclosed (log : List Entry) (j i : ℕ) : Type 0 where
  pub opened : IsTrue (opens (entry_at log j).event)
  pub earlier : j < i
  pub not_closed : (k : ℕ) → j < k → k < i → IsTrue (closes (entry_at log j).event (entry_at log k).event) → ⊥

-- Holds if, before position i, some transaction of the pool that is not closed passes the test.
abbrev pub SomeUnclosed : List Entry → ℕ → Pool → (Transaction → Bool) → Type 0
SomeUnclosed log i pool test = (j : ℕ) × IsUnclosed log j i × IsTrue (passes test (opened_as pool (entry_at log j)))

-- The facts before position i of a log of one connection. They do not depend on whether the entry before is a `down`.
abbrev pub facts_of_one : List Entry → ℕ → Facts
facts_of_one log i = record {
  IsPast = λ time. (k : ℕ) × (k + 1 ≡ i) × (time < (entry_at log k).time);
  HasEntry = 0 < i;
  HasUp = SomeEarlier log i (λ entry. is_up entry.event);
  HasDown = SomeEarlier log i (λ entry. is_down entry.event);
  FollowsDown = ⊥;
  IsUpSince = λ test. SomeEarlier log i (λ entry. is_up entry.event && test entry.time);
  IsSelected = SomeEarlier log i (λ entry. selects entry.event);
  IsOver = SomeEarlier log i (λ entry. ends_session entry.event);
  SomeOpen = SomeUnclosed log i;
}

-- Holds if the result is the first rule that the entry breaks after a log of one connection, or none.
abbrev pub BrokenOfOne : Parameters → List Entry → Entry → Option Rule → Type 0
BrokenOfOne settings log entry answer = IsFirst (Breaks (facts_of_one log (length log)) settings entry) all_rules answer

-- Holds if no entry of a log of one connection breaks a rule after the entries before it.
abbrev pub IsRunOfOne : Parameters → List Entry → Type 0
IsRunOfOne settings log =
    (i : ℕ) → i < length log → IsFirst (Breaks (facts_of_one log i) settings (entry_at log i)) all_rules None
