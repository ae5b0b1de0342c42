-- The counterparts of the frames of two logs that agree: the frame that a log receives with a number is the one that the
-- other log sends with this number.
use Rattle.std.specs.Prelude.{◌≡◌, ◌+◌, ◌++◌, ℕ, Bool, true, false, List, [], ◌∷◌, length, nat_lt, slice_index_or, if◌then◌else◌}
use Rattle.hsms_machine.specs.declared.entry.Entry.{Entry}
use Rattle.hsms_machine.specs.declared.entry.Event.{Event}
use Rattle.hsms_machine.specs.declared.entry.Event.TheVariants.{Sent, Taken, Discarded}
use Rattle.hsms_compare.specs.Conversation.{sent_by, received_by}
use Rattle.hsms_compare_causes.specs.declared.connection_log.ConnectionLog.{ConnectionLog}
use Rattle.hsms_compare_causes.specs.declared.traced_log.Counterpart.{Counterpart}
use Rattle.hsms_compare_causes.specs.declared.traced_log.Counterpart.TheVariants.{At, NotReached, Undecided}
use Rattle.hsms_compare_causes.specs.declared.traced_log.TracedLog.{TracedLog}
use Rattle.hsms_compare_causes.specs.Events.{is_received, is_sent}

-- ---- by number

abbrev pub index_if : Bool → ℕ → List ℕ
index_if true i = i ∷ []
index_if false i = []

-- The indexes of the entries that pass a test. The first entry has the index i.
abbrev pub indexes_from : (Entry → Bool) → ℕ → List Entry → List ℕ
indexes_from test i [] = []
indexes_from test i (entry ∷ entries) = index_if (test entry) i ++ indexes_from test (i + 1) entries

abbrev pub sent_indexes : List Entry → List ℕ
sent_indexes log = indexes_from (λ entry. is_sent entry.event) 0 log

abbrev pub received_indexes : List Entry → List ℕ
received_indexes log = indexes_from (λ entry. is_received entry.event) 0 log

-- ---- counterparts

-- The counterpart of the sent frame with the number n, counted from 0. The other log receives frames at these indexes, and
-- may have more entries.
abbrev pub sent_counterpart : List ℕ → Bool → ℕ → Counterpart
sent_counterpart received more n =
    if nat_lt n (length received) then At (slice_index_or received n 0) else (if more then Undecided else NotReached)

-- The counterpart of the received frame with the number n. The other log sends frames at these indexes.
abbrev pub received_counterpart : List ℕ → ℕ → Counterpart
received_counterpart sent n = if nat_lt n (length sent) then At (slice_index_or sent n 0) else Undecided

-- The counterpart of an event's frame, with n frames sent and r frames received before it.
abbrev pub counterpart_by : (sent received : List ℕ) → Bool → (n r : ℕ) → Event → Counterpart
counterpart_by sent received more n r (Sent frame) = sent_counterpart received more n
counterpart_by sent received more n r (Taken frame) = received_counterpart sent r
counterpart_by sent received more n r (Discarded frame) = received_counterpart sent r
counterpart_by sent received more n r event = Undecided

abbrev pub counterparts_from : (sent received : List ℕ) → Bool → (n r : ℕ) → List Entry → List Counterpart
counterparts_from sent received more n r [] = []
counterparts_from sent received more n r (entry ∷ entries) =
    counterpart_by sent received more n r entry.event
    ∷ counterparts_from sent received more (n + length (sent_by entry.event)) (r + length (received_by entry.event)) entries

-- The counterparts of the own entries in the other log. If `more`, that may have more entries.
abbrev pub counterparts_of : (own other : List Entry) → Bool → List Counterpart
counterparts_of own other more = counterparts_from (sent_indexes other) (received_indexes other) more 0 0 own

-- Holds if this is the own log, traced by the other one, which agrees with it.
pub record IsTracedLog (own other : ConnectionLog) (log : TracedLog) : Type 0 where
  pub entries_so : log.entries ≡ own.entries.items
  pub lines_so : log.lines.items ≡ own.lines.items
  pub counterparts_so : log.counterparts.items ≡ counterparts_of own.entries.items other.entries.items other.is_open
  pub open_so : log.is_open ≡ own.is_open
