-- Logs of several connections, paired in order.
use Rattle.std.specs.Prelude.{◌≡◌, ◌<◌, ◌==◌, ◌&&◌, ℕ, zero, suc, List, [], ◌∷◌, Bool, drop, length, Some, if◌then◌else◌}
use Rattle.hsms_machine.specs.declared.entry.Entry.{Entry}
use Rattle.hsms_machine.specs.Entry.{is_up}
use Rattle.hsms_compare.specs.declared.connections.LogContradiction.{LogContradiction}
use Rattle.hsms_compare.specs.declared.contradiction.Contradiction.{Contradiction}
use Rattle.hsms_compare.specs.Agreement.{CanAgree, FirstContradiction, is_open}

-- The entries before the next `up`, and the entries from it on.
abbrev pub until_up : List Entry → List Entry
until_up [] = []
until_up (entry ∷ log) = if is_up entry.event then [] else entry ∷ until_up log

abbrev pub from_up : List Entry → List Entry
from_up [] = []
from_up (entry ∷ log) = if is_up entry.event then entry ∷ log else from_up log

-- The entries of the first connection: the first entry, and those before the next `up`.
abbrev pub first_connection : List Entry → List Entry
first_connection [] = []
first_connection (entry ∷ log) = entry ∷ until_up log

-- The entries after the first connection.
abbrev pub later_connections : List Entry → List Entry
later_connections [] = []
later_connections (entry ∷ log) = from_up log

-- The entries from the k-th connection on, counted from 0: none if there are fewer.
abbrev pub from_connection : ℕ → List Entry → List Entry
from_connection zero log = log
from_connection (suc k) log = from_connection k (later_connections log)

-- True if the first connection may have more entries: it is the last one of its log, and open.
abbrev pub is_open_first : List Entry → Bool
is_open_first log = (length (later_connections log) == 0) && is_open (first_connection log)

abbrev pub CanAgreeFirst : (host equipment : List Entry) → Type 0
CanAgreeFirst host equipment =
    CanAgree (is_open_first host) (is_open_first equipment) (first_connection host) (first_connection equipment)

abbrev pub CanAgreeBefore : ℕ → (host equipment : List Entry) → Type 0
CanAgreeBefore k host equipment = (m : ℕ) → m < k → CanAgreeFirst (from_connection m host) (from_connection m equipment)

-- Holds if all connections that both logs have agree.
abbrev pub CanAgreeThroughout : (host equipment : List Entry) → Type 0
CanAgreeThroughout host equipment =
    (m : ℕ) → 0 < length (from_connection m host) → 0 < length (from_connection m equipment)
    → CanAgreeFirst (from_connection m host) (from_connection m equipment)

abbrev pub FirstContradicts : (host equipment : List Entry) → Contradiction → Type 0
FirstContradicts host equipment found =
    FirstContradiction (is_open_first host) (is_open_first equipment) (first_connection host) (first_connection equipment) (Some found)

-- The first contradiction, in the k-th connection, which begins at these entries.
pub record IsFirstIn (host equipment : List Entry) (found : LogContradiction) : Type 0 where
  pub k : ℕ
  pub before : CanAgreeBefore k host equipment
  pub at_host : drop found.host host ≡ from_connection k host
  pub at_equipment : drop found.equipment equipment ≡ from_connection k equipment
  pub contradicts : FirstContradicts (from_connection k host) (from_connection k equipment) found.contradiction
