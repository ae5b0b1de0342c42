-- The log entries of a connection that the packets show: when it was established, its messages in causal order, and
-- when it was closed. A connection that was never established has no entries.
use Rattle.std.specs.Prelude.{ℕ, ◌==◌, ◌&&◌, ◌||◌, Bool, true, false, nat_le, if◌then◌else◌, List, [], ◌∷◌, ◌++◌, flat_map, filter, get_or, Option, Some, None}
use Rattle.capture_tcp.specs.TcpStreams.{End, passive, other, same_end, Cell, syn, octet, fin, Placed, Turn, acknowledges, is_open, emitted_turns, earlier, Shown, shows_of}
use Rattle.capture_tcp.specs.Message.{message_size}

pub data ConnectionEvent : Type 0 where
  up : ConnectionEvent
  message : End → List ℕ → ConnectionEvent
  down : ConnectionEvent

pub record Entry : Type 0 where
  pub packet : ℕ
  pub emitted : ConnectionEvent

abbrev pub entry : ℕ → ConnectionEvent → Entry
entry packet emitted = record { packet = packet; emitted = emitted }

-- The entries of these cells, after these bytes. A SYN has none. A FIN gives the end of the connection, also within a
-- message.
abbrev pub entry_of : End → ℕ → List ℕ → List Cell → List Entry
entry_of d packet octets [] = entry packet (message d octets) ∷ []
entry_of d packet octets (syn ∷ cs) = []
entry_of d packet octets (fin ∷ cs) = entry packet down ∷ []
entry_of d packet octets (octet n ∷ cs) = entry_of d packet (octets ++ (n ∷ [])) cs

abbrev pub shown_entries : List Shown → List Entry
shown_entries ss = flat_map (λ s. entry_of s.of s.at.packet [] s.cells) ss

-- A reset of an open connection ends it when it is delivered. No entry follows.
abbrev pub reset_entries : Bool → List Turn → List Entry
reset_entries opened [] = []
reset_entries opened (t ∷ ts) = if t.own.reset && (opened || is_open t) then (entry t.at.packet down ∷ []) else reset_entries (opened || is_open t) ts

-- True for a Separate, by PType and SType, which follow the length's bytes.
abbrev pub is_separate : List ℕ → Bool
is_separate octets = get_or octets 8 0 == 0 && get_or octets 9 0 == 9

-- What the other end sends after a Separate is skipped: nobody can know whether it was read.
abbrev pub is_left_out : Option End → End → Bool
is_left_out None d = false
is_left_out (Some separated) d = same_end d (other separated)

abbrev pub separated_by : Option End → End → Bool → Option End
separated_by (Some s) d b = Some s
separated_by None d true = Some d
separated_by None d false = None

abbrev pub and_later : Entry → (Option End → List Entry) → Option End → ConnectionEvent → List Entry
and_later e later separated up = later separated
and_later e later separated down = e ∷ []
and_later e later separated (message d octets) = if is_left_out separated d then later separated else (e ∷ later (separated_by separated d (is_separate octets)))

-- The first end of the connection is the last entry.
abbrev pub up_to_down : List Entry → Option End → List Entry
up_to_down [] separated = []
up_to_down (e ∷ es) separated = and_later e (up_to_down es) separated e.emitted

-- The active end's first packet that acknowledges the SYN of the passive end.
abbrev pub answered_at : List Turn → Option ℕ
answered_at [] = None
answered_at (t ∷ ts) = if nat_le 1 (acknowledges passive t) then Some t.at.packet else answered_at ts

abbrev pub is_message : ConnectionEvent → Bool
is_message up = false
is_message down = false
is_message (message d octets) = true

abbrev pub first_message : List Entry → Option ℕ
first_message [] = None
first_message (e ∷ es) = if is_message e.emitted then Some e.packet else first_message es

-- An end before the connection was established is ignored.
abbrev pub after_up : Option ℕ → List Entry → List Entry
after_up None es = []
after_up (Some k) es = entry k up ∷ up_to_down (filter (λ e. nat_le k e.packet) es) None

abbrev pub derived_from : List Entry → List Turn → List Entry
derived_from es ts = after_up (earlier (answered_at ts) (first_message es)) (es ++ reset_entries false ts)

abbrev pub emits : List Placed → List Entry
emits ps = derived_from (shown_entries (shows_of message_size ps)) (emitted_turns ps)

-- ---- whether it was established, and closed

abbrev pub is_up : ConnectionEvent → Bool
is_up up = true
is_up (message d octets) = false
is_up down = false

abbrev pub is_down : ConnectionEvent → Bool
is_down up = false
is_down (message d octets) = false
is_down down = true

-- True if one of these entries says so.
abbrev pub has_up : List Entry → Bool
has_up [] = false
has_up (e ∷ es) = is_up e.emitted || has_up es

abbrev pub ends_down : List Entry → Bool
ends_down [] = false
ends_down (e ∷ es) = is_down e.emitted || ends_down es
