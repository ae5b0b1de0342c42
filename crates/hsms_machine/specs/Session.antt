-- The state of a session, and the facts about earlier entries that the rules use (SEMI E37, section 5, connection
-- states).
use Rattle.std.specs.Prelude.{◌≡◌, ℕ, ◌+◌, ◌<◌, Bool, true, false, ◌&&◌, List, IsTrue}
use Rattle.hsms_machine.specs.declared.entry.Entry.{Entry}
use Rattle.hsms_machine.specs.declared.entry.Event.{Event}
use Rattle.hsms_machine.specs.declared.entry.Event.TheVariants.{Sent, Taken, Cut}
use Rattle.hsms_machine.specs.declared.open_transactions.Transaction.{Transaction}
use Rattle.hsms_machine.specs.Entry.{entry_at, is_up, is_down, SomeBefore}
use Rattle.hsms_machine.specs.Message.{establishes, separates}
use Rattle.hsms_machine.specs.Transaction.{Pool, SomeOpen}

-- True if the event enters the state SELECTED.
abbrev pub selects : Event → Bool
selects (Sent frame) = establishes frame.header
selects (Taken frame) = establishes frame.header
selects _ = false

-- True if the event ends the session.
abbrev pub ends_session : Event → Bool
ends_session (Sent frame) = separates frame.header
ends_session (Taken frame) = separates frame.header
ends_session (Cut cause) = true
ends_session _ = false

-- Holds if the entry before position i is a `down`.
abbrev pub FollowsDown : List Entry → ℕ → Type 0
FollowsDown log i = (k : ℕ) × (k + 1 ≡ i) × IsTrue (is_down (entry_at log k).event)

-- Holds if the session has been selected, on the connection of position i.
abbrev pub IsSelected : List Entry → ℕ → Type 0
IsSelected log i = SomeBefore log i (λ entry. selects entry.event)

-- Holds if the session has ended, on the connection of position i.
abbrev pub IsOver : List Entry → ℕ → Type 0
IsOver log i = SomeBefore log i (λ entry. ends_session entry.event)

-- The facts about the entries before an entry that the rules use.
pub record Facts : Type 1 where
  -- the entry before is later than this time
  pub IsPast : ℕ → Type 0
  -- there is an entry before
  pub HasEntry : Type 0
  -- the connection was established
  pub HasUp : Type 0
  -- the connection was closed
  pub HasDown : Type 0
  -- the entry before is a `down`
  pub FollowsDown : Type 0
  -- the connection was established at a time that passes the test
  pub IsUpSince : (ℕ → Bool) → Type 0
  pub IsSelected : Type 0
  pub IsOver : Type 0
  -- an open transaction of the pool passes the test
  pub SomeOpen : Pool → (Transaction → Bool) → Type 0

-- The facts before position i of the log.
abbrev pub facts_before : List Entry → ℕ → Facts
facts_before log i = record {
  IsPast = λ time. (k : ℕ) × (k + 1 ≡ i) × (time < (entry_at log k).time);
  HasEntry = 0 < i;
  HasUp = SomeBefore log i (λ entry. is_up entry.event);
  HasDown = SomeBefore log i (λ entry. is_down entry.event);
  FollowsDown = FollowsDown log i;
  IsUpSince = λ test. SomeBefore log i (λ entry. is_up entry.event && test entry.time);
  IsSelected = IsSelected log i;
  IsOver = IsOver log i;
  SomeOpen = SomeOpen log i;
}
