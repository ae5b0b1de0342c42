-- The line number of each entry of a log in the input. A log with line numbers as times satisfies the same definitions
-- as the log. So each open transaction has its line number.
use Rattle.std.specs.Prelude.{◌≡◌, ℕ, ◌≤◌, Bool, false, List, [], ◌∷◌, ◌++◌, None, IsTrue, length}
use Rattle.hsms_machine.specs.declared.entry.Entry.{Entry}
use Rattle.hsms_machine.specs.declared.entry.Event.{Event}
use Rattle.hsms_machine.specs.declared.entry.Event.TheVariants.{Sent}
use Rattle.hsms_machine.specs.declared.view.View.{View}
use Rattle.hsms_machine.specs.Settings.{Parameters}
use Rattle.hsms_machine.specs.Entry.{entry_at}
use Rattle.hsms_machine.specs.Message.{is_data_request}
use Rattle.hsms_machine.specs.Transaction.{IsOpen, closes}
use Rattle.hsms_machine.specs.Laws.{shares_system}
use Rattle.hsms_machine.specs.Run.{Broken, IsRun}
use Rattle.hsms_machine.specs.View.{view_of}

-- Holds if the events are equal, entry by entry.
abbrev pub SameEvents : List Entry → List Entry → Type 0
SameEvents [] [] = Unit {0}
SameEvents (entry ∷ log) (other ∷ placed) = (entry.event ≡ other.event) × SameEvents log placed
SameEvents log placed = ⊥

-- The entry with its line number as its time.
abbrev pub at_place : ℕ → Entry → Entry
at_place place entry = record { time = place; event = entry.event }

-- Holds if `placed` is the log with line numbers as times, and this is its view.
pub record HasPlaces (log placed : List Entry) (places : View) : Type 0 where
  pub same : SameEvents log placed
  pub seen : view_of places.settings placed ≡ places

-- Holds if the entry at j has this line number and opened a transaction that is open after the log and that the event
-- closes.
abbrev pub IsClosing : List Entry → List Entry → Event → ℕ → Type 0
IsClosing log placed event place =
    (j : ℕ) × IsOpen log j (length log)
    × IsTrue (closes (entry_at log j).event event)
    × ((entry_at placed j).time ≡ place)

-- Holds if the event closes no transaction that is open after the log.
abbrev pub ClosesNone : List Entry → Event → Type 0
ClosesNone log event =
    (j : ℕ) → IsOpen log j (length log) → IsTrue (closes (entry_at log j).event event) → ⊥

-- Holds if the fact holds for each log with these line numbers.
abbrev pub ForEachPlaced : View → (List Entry → List Entry → Type 0) → Type 0
ForEachPlaced places Holds = (log placed : List Entry) → HasPlaces log placed places → Holds log placed

-- Holds if the event closes an open transaction that the entry with this line number opened.
abbrev pub ClosesOneOpenedAt : View → Event → ℕ → Type 0
ClosesOneOpenedAt places event place = ForEachPlaced places (λ log placed. IsClosing log placed event place)

-- Holds if the event closes no open transaction.
abbrev pub ClosesNothing : View → Event → Type 0
ClosesNothing places event = ForEachPlaced places (λ log placed. ClosesNone log event)

-- Holds if, after an entry that is valid after a run, these are the line numbers of the run with the entry appended.
abbrev pub PlacesLeadTo : View → ℕ → Entry → View → Type 0
PlacesLeadTo places place entry later =
    ForEachPlaced places (λ log placed.
    (settings : Parameters) → IsRun settings log → Broken settings log entry None
    → HasPlaces (log ++ entry ∷ []) (placed ++ at_place place entry ∷ []) later)

-- True for a sent primary with the W bit.
abbrev pub is_sent_primary : Event → Bool
is_sent_primary (Sent frame) = is_data_request frame.header
is_sent_primary event = false

-- Holds if the entry at j has this line number and is a sent primary that is open after the log. No other such primary
-- has a lower line number.
abbrev pub IsOldestPrimary : List Entry → List Entry → ℕ → Type 0
IsOldestPrimary log placed place =
    (j : ℕ) × IsOpen log j (length log)
    × IsTrue (is_sent_primary (entry_at log j).event)
    × ((entry_at placed j).time ≡ place)
    × ((other : ℕ) → IsOpen log other (length log) → IsTrue (is_sent_primary (entry_at log other).event)
    → place ≤ (entry_at placed other).time)

-- Holds if the oldest open primary has this line number.
abbrev pub IsPlaceOfOldest : View → ℕ → Type 0
IsPlaceOfOldest places place = ForEachPlaced places (λ log placed. IsOldestPrimary log placed place)

-- Holds if no sent primary is open.
abbrev pub NoPrimaryIsOpen : View → Type 0
NoPrimaryIsOpen places =
    ForEachPlaced places (λ log placed. (j : ℕ) → IsOpen log j (length log)
    → IsTrue (is_sent_primary (entry_at log j).event) → ⊥)

-- Holds if the entry at j has this line number and opened a transaction that is open after the log. The transaction has
-- the event's direction and system bytes.
abbrev pub IsNamesake : List Entry → List Entry → Event → ℕ → Type 0
IsNamesake log placed event place =
    (j : ℕ) × IsOpen log j (length log)
    × IsTrue (shares_system (entry_at log j).event event)
    × ((entry_at placed j).time ≡ place)

-- Holds if an open transaction with the event's direction and system bytes has this line number.
abbrev pub IsPlaceInUse : View → Event → ℕ → Type 0
IsPlaceInUse places event place = ForEachPlaced places (λ log placed. IsNamesake log placed event place)

-- Holds if no open transaction has the event's direction and system bytes.
abbrev pub IsNotInUse : View → Event → Type 0
IsNotInUse places event =
    ForEachPlaced places (λ log placed. (j : ℕ) → IsOpen log j (length log)
    → IsTrue (shares_system (entry_at log j).event event) → ⊥)
