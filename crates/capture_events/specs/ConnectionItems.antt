-- The items that both endpoints log of a connection that starts with a SYN, and the events for them.
use Rattle.std.specs.Prelude.{ℕ, ◌+◌, ◌^◌, ◌%◌, ◌==◌, ◌&&◌, ◌||◌, max, nat_eq, nat_lt, nat_le, Bool, true, false, not, if◌then◌else◌, List, [], ◌∷◌, ◌++◌, length, take, drop, map, flat_map, Option, Some, None, is_some, is_none}
use Rattle.std.specs.List.{list_any}
use Rattle.std.specs.Option.{option_map}
use Rattle.hsms_frame.specs.Frame.{Frame}
use Rattle.capture_midstream.specs.MessageCheck.{header_of}
use Rattle.capture_log.specs.declared.audited_log.LogComment.TheVariants.{Packet, Replaced}
use Rattle.capture_log.specs.BothLogs.{is_no_message}
use Rattle.capture_tcp.specs.declared.ending.Ending.{Ending}
use Rattle.capture_tcp.specs.declared.ending.Ending.TheVariants as ending
use Rattle.capture_tcp.specs.TcpStreams.{End, active, passive, same_end, Cell, syn, octet, fin, Placed, Seen, or_else, end_of, places}
use Rattle.capture_tcp.specs.ConnectionEvents.{ConnectionEvent, up, message, down, Entry, emits}
use Rattle.capture_tcp.specs.Timestamps.{time_at}
use Rattle.capture_tcp.specs.Losses.{side_of}
use Rattle.capture_tcp.specs.EndOfStream.{ended, is_known}
use Rattle.capture_tcp.specs.KnownStreams.{bases, placed_after}
use Rattle.capture_tcp.specs.ReaderState.{first_kept}
use Rattle.capture_log.specs.declared.socket_pair.Pair.{Pair}
use Rattle.capture_events.specs.declared.event.Event.{Event}
use Rattle.capture_events.specs.declared.event.Event.TheVariants.{Logged, Ended}
use Rattle.capture_events.specs.declared.log_item.LogItem.{LogItem}
use Rattle.capture_events.specs.declared.log_item.EntryKind.{EntryKind}
use Rattle.capture_events.specs.declared.log_item.EntryKind.TheVariants.{Up, Message, Down}
use Rattle.capture_events.specs.declared.incomplete.Shortfall.{Shortfall}
use Rattle.capture_events.specs.declared.incomplete.Shortfall.TheVariants.{Lost, Differs, Length, Full}

-- The items so far. Once no further items follow, `over` is set, with what is missing, if anything is.
pub record ConnectionItems : Type 0 where
  pub items : List LogItem
  pub over : Option (Option Shortfall)

abbrev pub is_over : ConnectionItems → Bool
is_over s = is_some s.over

-- The connection ends here with this shortfall, unless it ended before.
abbrev pub ending_with : Option Shortfall → ConnectionItems → ConnectionItems
ending_with shortfall s = record s { over = or_else s.over (Some shortfall) }

-- ---- the item of an entry

-- The message of these bytes, those of its length first.
abbrev pub frame_in : List ℕ → Frame
frame_in octets = record { header = header_of (take 10 (drop 4 octets)); text = drop 14 octets }

abbrev pub kind_of : ℕ → ConnectionEvent → EntryKind
kind_of packet up = Up packet
kind_of packet (message d octets) = Message (side_of d) (frame_in octets)
kind_of packet down = Down

-- The packet number of a reset without an ACK. The time at which the other endpoint received it is not known, so a `down`
-- at it has the time of the entry before.
abbrev pub bare_if : Bool → ℕ → List ℕ
bare_if true packet = packet ∷ []
bare_if false packet = []

abbrev pub bare_resets : List Seen → List ℕ
bare_resets seen = flat_map (λ s. bare_if (s.reset && is_none s.acknowledged) s.packet) seen

abbrev pub is_among : List ℕ → ℕ → Bool
is_among ns n = list_any (λ m. nat_eq m n) ns

abbrev pub log_time_of : ConnectionEvent → Bool → ℕ → ℕ
log_time_of up bare time = time
log_time_of (message d octets) bare time = time
log_time_of down bare time = if bare then 0 else time

abbrev pub item_of_entry : List Placed → List Seen → Entry → LogItem
item_of_entry ps seen e = record {
  comment = Packet e.packet;
  time = log_time_of e.emitted (is_among (bare_resets seen) e.packet) (time_at ps e.packet);
  kind = Some (kind_of e.packet e.emitted);
}

-- The items of the entries, up to a `down`, or up to a message that no endpoint takes.
abbrev pub and_item : ℕ → ConnectionEvent → ℕ → LogItem → ConnectionItems → ConnectionItems
and_item most up packet item rest = record rest { items = item ∷ rest.items }
and_item most (message d octets) packet item rest =
    if is_no_message most (length octets) then (record { items = []; over = Some (Some (Length packet)) }) else (record rest { items = item ∷ rest.items })
and_item most down packet item rest = record { items = item ∷ []; over = Some None }

unfoldable pub logged : ℕ → (Entry → LogItem) → List Entry → ConnectionItems
logged most item [] = record { items = []; over = None }
logged most item (e ∷ es) = and_item most e.emitted e.packet (item e) (logged most item es)

-- ---- by the sequence numbers of both SYNs

-- What is missing of a connection with this ending, if `missing` may be missing after it.
abbrev pub shortfall_of : Ending → Option Shortfall → Option Shortfall
shortfall_of ending.Closed missing = None
shortfall_of ending.Complete missing = missing
shortfall_of (ending.Lost packet) missing = Some (Lost packet)
shortfall_of (ending.Differs packet) missing = Some (Differs packet)

abbrev pub ending_if : Bool → Option Shortfall → ConnectionItems → ConnectionItems
ending_if true shortfall s = ending_with shortfall s
ending_if false shortfall s = s

abbrev pub entries_of : ℕ → List Placed → List Seen → ConnectionItems
entries_of most ps seen = logged most (item_of_entry ps seen) (emits ps)

-- The items of these segments. The connection is over if its ending is known, whichever segments follow.
abbrev pub emitted_items : ℕ → (End → ℕ) → List Seen → ConnectionItems
emitted_items most base seen =
    (let ps = places base [] seen in ending_if (is_known ps) (shortfall_of (ended ps) None) (entries_of most ps seen))

-- True if too many bytes wait: a stream is longer than 2^62 cells, or the segment ends more than 2^26 cells after the
-- first cell of its direction that is not yet emitted or not acknowledged.
abbrev pub is_past : List Placed → List Placed → Bool
is_past ps [] = false
is_past ps (p ∷ (q ∷ rest)) = false
is_past ps (p ∷ []) =
    nat_lt 0 (length p.cells)
    && (nat_lt (first_kept ps p.from + 2 ^ 26) (p.place + length p.cells) || nat_le (2 ^ 64) (p.place + length p.cells))

abbrev pub is_too_much : (End → ℕ) → List Seen → Seen → Bool
is_too_much base before s =
    (let ps = places base [] before in
    nat_le (2 ^ 62) (max (end_of ps active) (end_of ps passive)) || is_past ps (placed_after base ps s))

-- The items of the segments, which are processed one after another until the connection is over.
unfoldable pub follow : ℕ → (End → ℕ) → List Seen → List Seen → ConnectionItems
follow most base before [] = emitted_items most base before
follow most base before (s ∷ ss) =
    if is_over (emitted_items most base before) then emitted_items most base before else
    (if is_too_much base before s then ending_with (Some (Full s.packet)) (emitted_items most base before) else follow most base (before ++ s ∷ []) ss)

-- ---- by the sequence number of the active end's SYN

abbrev pub begins_with_syn : List Cell → Bool
begins_with_syn [] = false
begins_with_syn (syn ∷ cs) = true
begins_with_syn (octet n ∷ cs) = false
begins_with_syn (fin ∷ cs) = false

abbrev pub is_number : Option ℕ → ℕ → Bool
is_number None n = false
is_number (Some m) n = m == n

-- True for a SYN of the passive end that acknowledges the active end's. `answered_by` is the sequence number of the first.
abbrev pub is_answer : ℕ → Seen → Bool
is_answer number s = same_end s.from passive && (begins_with_syn s.cells && is_number s.acknowledged ((number + 1) % 2 ^ 32))

abbrev pub answered_by : ℕ → List Seen → Option ℕ
answered_by number [] = None
answered_by number (s ∷ ss) = if is_answer number s then Some s.number else answered_by number ss

-- True if a packet shows that the passive end sent its SYN: the active end acknowledges it, or there is data, which a RST
-- does not carry.
abbrev pub has_octets : List Cell → Bool
has_octets [] = false
has_octets (syn ∷ cs) = has_octets cs
has_octets (octet n ∷ cs) = true
has_octets (fin ∷ cs) = has_octets cs

abbrev pub shows_answer : Seen → Bool
shows_answer s = (same_end s.from active && is_some s.acknowledged) || (has_octets s.cells && not s.reset)

abbrev pub first_shown : List Seen → Option ℕ
first_shown [] = None
first_shown (s ∷ ss) = if shows_answer s then Some s.packet else first_shown ss

abbrev pub lost_by : List Seen → Option Shortfall
lost_by seen = option_map (λ packet. Lost packet) (first_shown seen)

-- The packets wait for the passive end's SYN, but at most 4,096.
abbrev pub items_by : Option ℕ → ℕ → ℕ → List Seen → ConnectionItems
items_by None most number seen = record { items = []; over = if nat_lt 4096 (length seen) then Some (lost_by seen) else None }
items_by (Some other) most number seen = follow most (bases number other) [] seen

abbrev pub connection_items : ℕ → ℕ → List Seen → ConnectionItems
connection_items most number seen = items_by (answered_by number seen) most number seen

-- What is missing if no segment follows.
abbrev pub shortfall_by : Option ℕ → ℕ → List Seen → Option Shortfall → Option Shortfall
shortfall_by None number seen missing = lost_by seen
shortfall_by (Some other) number seen missing = shortfall_of (ended (places (bases number other) [] seen)) missing

-- ---- no packet follows

abbrev pub is_there : {A : Type 0} → List A → Bool
is_there [] = false
is_there (x ∷ xs) = true

-- A connection that is up is closed if a later one replaces it and nothing is missing.
abbrev pub replaced_down : LogItem
replaced_down = record { comment = Replaced; time = 0; kind = Some Down }

abbrev pub down_if : Bool → List LogItem
down_if true = replaced_down ∷ []
down_if false = []

abbrev pub ends_by : Option (Option Shortfall) → ConnectionItems → Option Shortfall → Bool → ConnectionItems
ends_by (Some known) s shortfall replaced = s
ends_by None s shortfall replaced = record { items = s.items ++ down_if (replaced && (is_none shortfall && is_there s.items)); over = Some shortfall }

abbrev pub ends : ConnectionItems → Option Shortfall → Bool → ConnectionItems
ends s shortfall replaced = ends_by s.over s shortfall replaced

-- ---- events

-- The last event of a connection, if there is an item of it or something is missing.
abbrev pub end_event : Pair → Bool → Option (Option Shortfall) → List Event
end_event pair there None = []
end_event pair there (Some shortfall) = if there || is_some shortfall then Ended pair shortfall ∷ [] else []

-- The events of the pair's connection between two lists of items.
abbrev pub new_events : Pair → ConnectionItems → ConnectionItems → List Event
new_events pair old new =
    if is_over old then [] else map (Logged pair) (drop (length old.items) new.items) ++ end_event pair (is_there new.items) new.over
