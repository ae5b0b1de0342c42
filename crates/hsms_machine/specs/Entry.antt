-- Entries of a session log by position (a project-specific log of the messages of SEMI E37).
use Rattle.std.specs.Prelude.{ℕ, ◌<◌, Bool, true, false, List, [], ◌∷◌, slice_index_or, IsTrue, if◌then◌else◌}
use Rattle.std.specs.List.{list_any}
use Rattle.hsms_frame.specs.declared.header.Header.{Header}
use Rattle.hsms_frame.specs.Frame.{Frame}
use Rattle.hsms_machine.specs.declared.entry.Entry.{Entry}
use Rattle.hsms_machine.specs.declared.entry.Event.{Event}
use Rattle.hsms_machine.specs.declared.entry.Event.TheVariants.{Up, Sent, Taken, Discarded, T3, Down}
use Rattle.hsms_machine.specs.declared.entry.Mark.{Mark}
use Rattle.hsms_machine.specs.declared.entry.Mark.TheVariants.{Sent as MarkSent, Taken as MarkTaken, Discarded as MarkDiscarded}

-- The entry at a position, counted from 0.
abbrev pub entry_at : List Entry → ℕ → Entry
entry_at log i = slice_index_or log i (record { time = 0; event = Up })

-- The event of a frame with this mark.
abbrev pub frame_event : Mark → Frame → Event
frame_event MarkSent frame = Sent frame
frame_event MarkTaken frame = Taken frame
frame_event MarkDiscarded frame = Discarded frame

-- The entry of the frame with this header and text.
abbrev pub frame_entry : ℕ → Mark → Header → List ℕ → Entry
frame_entry time mark header text =
    record { time = time; event = frame_event mark (record { header = header; text = text }) }

abbrev pub is_up : Event → Bool
is_up Up = true
is_up _ = false

abbrev pub is_down : Event → Bool
is_down Down = true
is_down _ = false

abbrev pub is_t3 : Event → Bool
is_t3 (T3 system) = true
is_t3 _ = false

-- Holds if the entry at k is before position i on the same connection: no `up` is between them.
unfoldable pub IsOnConnection : List Entry → ℕ → ℕ → Type 0
IsOnConnection log k i = (k < i) × ((m : ℕ) → k < m → m < i → ¬ IsTrue (is_up (entry_at log m).event))

-- Holds if some entry before position i, on the same connection, passes the test.
abbrev pub SomeBefore : List Entry → ℕ → (Entry → Bool) → Type 0
SomeBefore log i test = (k : ℕ) × IsOnConnection log k i × IsTrue (test (entry_at log k))

-- The entries of the last connection: those from the last `up` on, or all if there is none.
unfoldable pub connection_of : List Entry → List Entry
connection_of [] = []
connection_of (entry ∷ later) =
    if list_any (λ other. is_up other.event) later then connection_of later else entry ∷ later
