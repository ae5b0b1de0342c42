-- What only contracts of private functions use: groups of entries, and the next entry of each group.
use Rattle.std.specs.Prelude.{◌≡◌, ◌+◌, ◌-◌, ◌<◌, ◌≤◌, ◌&&◌, ℕ, nat_eq, nat_le, Bool, true, false, List, [], ◌∷◌, Option, Some, None, IsTrue, MatchOption, drop, length, slice_index_or, if◌then◌else◌}
use Rattle.indexmap.specs.IndexMap.{get}
use Rattle.hsms_machine.specs.declared.entry.Entry.{Entry}
use Rattle.hsms_machine.specs.declared.entry.Event.{Event}
use Rattle.hsms_machine.specs.declared.entry.Event.TheVariants.{Sent, Taken, Discarded, T3}
use Rattle.hsms_machine.specs.Entry.{entry_at}
use Rattle.hsms_compare_causes.specs.declared.group.Group.{Group}
use Rattle.hsms_compare_causes.specs.declared.group.Group.TheVariants.{System, Ends}
use Rattle.hsms_compare_causes.specs.declared.later_entries.LaterEntries.{LaterEntries}
use Rattle.hsms_compare_causes.specs.declared.later_entries.NextEntries.{NextEntries}
use Rattle.hsms_compare_causes.specs.Events.{ends_connection}
use Rattle.hsms_compare_causes.specs.OwnOutcome.{session_of}
use Rattle.hsms_compare_causes.specs.Search.{FirstFrom, NoneFrom}

-- ---- groups

-- The system bytes of an event.
abbrev pub system_of : Event → Option ℕ
system_of (Sent frame) = Some frame.header.system
system_of (Taken frame) = Some frame.header.system
system_of (Discarded frame) = Some frame.header.system
system_of (T3 system) = Some system
system_of event = None

abbrev pub is_system : Option ℕ → ℕ → Bool
is_system (Some s) t = nat_eq s t
is_system None t = false

-- True if the entry is of the group.
abbrev pub is_in : Group → Entry → Bool
is_in (System s) entry = is_system (system_of entry.event) s
is_in Ends entry = ends_connection entry.event

-- True if the event leads to the next entry of the group.
abbrev pub leads : Group → Event → Bool
leads (System s) event = is_system (system_of event) s
leads Ends event = true

-- Holds if the entry at k is reached, which leads to the next one of the group, and no entry before it, from this index on,
-- passes the test.
pub record IsReachedAt (test : Entry → Bool) (group : Group) (log : List Entry) (start k : ℕ) : Type 0 where
  pub from : start ≤ k
  pub there : k < length log
  pub leading : IsTrue (leads group (entry_at log k).event)
  pub first : (p : ℕ) → start ≤ p → p < k → IsTrue (test (entry_at log p)) → ⊥

abbrev pub IsReached : (Entry → Bool) → Group → List Entry → ℕ → Option ℕ → Type 0
IsReached test group log start at = MatchOption at (NoneFrom test log start) (IsReachedAt test group log start)

-- How many entries are left from the one that is reached.
abbrev pub remaining : ℕ → Option ℕ → ℕ
remaining n None = 0
remaining n (Some k) = n - k

-- ---- later entries

abbrev pub first_if : Bool → ℕ → Option ℕ → Option ℕ
first_if true i later = Some i
first_if false i later = later

-- The later one of two times, if the second one counts.
abbrev pub later_if : Bool → ℕ → ℕ → ℕ
later_if counts s t = if counts && nat_le s t then t else s

-- The latest time of these entries, or 0 if there is none.
abbrev pub latest_of : List Entry → ℕ
latest_of [] = 0
latest_of (entry ∷ entries) = later_if true (latest_of entries) entry.time

-- Holds if this is known of the entries from i on.
pub record IsLater (log : List Entry) (i : ℕ) (later : LaterEntries) : Type 0 where
  pub systems_so : (s : ℕ) → FirstFrom (is_in (System s)) log i (get nat_eq later.systems s)
  pub end_so : FirstFrom (is_in Ends) log i later.end
  pub latest_so : later.latest ≡ latest_of (drop i (session_of log))

-- Holds if these are the next entries after the one at i.
pub record IsNext (log : List Entry) (i : ℕ) (next : NextEntries) : Type 0 where
  pub same_so : (s : ℕ) → system_of (entry_at log i).event ≡ Some s → FirstFrom (is_in (System s)) log (i + 1) next.same
  pub end_so : FirstFrom (is_in Ends) log (i + 1) next.end
  pub latest_so : next.latest ≡ latest_of (drop (i + 1) (session_of log))

abbrev pub no_entries : NextEntries
no_entries = record { same = None; end = None; latest = 0 }

abbrev pub next_at : List NextEntries → ℕ → NextEntries
next_at nexts i = slice_index_or nexts i no_entries

-- Holds if these are the next entries after each entry from i on.
pub record AreNextFrom (log : List Entry) (i : ℕ) (nexts : List NextEntries) : Type 0 where
  pub count_so : length nexts ≡ length log
  pub each_so : (k : ℕ) → i ≤ k → k < length log → IsNext log k (next_at nexts k)
