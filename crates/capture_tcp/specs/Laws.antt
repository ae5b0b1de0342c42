-- Laws of the TCP streams, independent of the code.
use Rattle.std.specs.Prelude.{◌%◌, ◌^◌, ◌+◌, ◌≡◌, ◌<◌, ◌≤◌, ◌⊎◌, ◌&&◌, ℕ, zero, suc, max, nat_eq, nat_le, nat_lt, if◌then◌else◌, Bool, List, [], ◌∷◌, ◌++◌, length, take, drop, map, filter, Option, Some, None, is_some, true, false}
use Rattle.std.specs.List.{list_any}
use Rattle.capture_tcp.specs.Message.{message_size}
use Rattle.capture_tcp.specs.ConnectionEvents.{up, down, Entry, entry, has_up, emits}
use Rattle.capture_tcp.specs.TcpStreams.{End, other, Cell, cell_at, end_of, in_order, turns_at, Seen, Placed, Shown, same_end, stream_of, is_beyond, loss, difference, nearest, places, shows_of, wire_shows}

-- ---- the end of what has no gap, by the spans that wait in the order of their offsets

-- Bytes that wait: from one offset up to another.
pub record Span : Type 0 where
  pub from : ℕ
  pub to : ℕ

abbrev pub Covers : List Span → ℕ → Type 0
Covers [] n = ⊥
Covers (s ∷ ss) n = ((s.from ≤ n) × (n < s.to)) ⊎ Covers ss n

abbrev pub IsOrdered : List Span → Type 0
IsOrdered [] = Unit {0}
IsOrdered (s ∷ ss) = ((n : ℕ) → Covers ss n → s.from ≤ n) × IsOrdered ss

-- What a reader of the queue does.
unfoldable pub absorb : ℕ → List Span → ℕ
absorb end [] = end
absorb end (s ∷ ss) = if nat_le s.from end then absorb (max end s.to) ss else end

-- Holds if no offset before the end is missing, and the end itself is.
abbrev pub IsEnd : (ℕ → Type 0) → ℕ → Type 0
IsEnd ReassemblyBuffer end = ((n : ℕ) → n < end → ReassemblyBuffer n) × (ReassemblyBuffer end → ⊥)

abbrev pub AbsorbGivesTheEnd : Type 0
AbsorbGivesTheEnd = (end : ℕ) (spans : List Span) → IsOrdered spans → IsEnd (λ n. (n < end) ⊎ Covers spans n) (absorb end spans)

abbrev pub OneEnd : Type 0
OneEnd =
    (end : ℕ) (spans : List Span) (a b : ℕ) → IsEnd (λ n. (n < end) ⊎ Covers spans n) a → IsEnd (λ n. (n < end) ⊎ Covers spans n) b → a ≡ b

-- ---- the end in the definition is the end of what is buffered, and a queue of what waits finds it

abbrev pub IsHeld : List Placed → End → ℕ → Type 0
IsHeld ps d n = is_some (cell_at ps d n) ≡ true

abbrev pub EndIsEnd : Type 0
EndIsEnd = (ps : List Placed) (d : End) → IsEnd (IsHeld ps d) (end_of ps d)

-- What waits is what is buffered after the end. An in-order packet moves the end as the queue states.
abbrev pub EndContinues : Type 0
EndContinues =
    (before : List Placed) (p : Placed) (waiting : List Span) → IsOrdered waiting
    → ((n : ℕ) → end_of before p.from ≤ n → (IsHeld before p.from n → Covers waiting n) × (Covers waiting n → IsHeld before p.from n))
    → p.place ≤ end_of before p.from
    → end_of (before ++ (p ∷ [])) p.from ≡ absorb (max (end_of before p.from) (p.place + length p.cells)) waiting

-- ---- out-of-order packets, as a queue in the order of offsets

-- A packet is inserted after those with its offset.
abbrev pub insert_after : Placed → List Placed → List Placed
insert_after p [] = p ∷ []
insert_after p (q ∷ qs) = if nat_lt p.place q.place then p ∷ q ∷ qs else q ∷ insert_after p qs

-- The front of a queue that an end has reached, and what is left of the queue.
abbrev pub reached : ℕ → List Placed → List Placed
reached end [] = []
reached end (q ∷ qs) = if nat_le q.place end then q ∷ reached end qs else []

abbrev pub left_waiting : ℕ → List Placed → List Placed
left_waiting end [] = []
left_waiting end (q ∷ qs) = if nat_le q.place end then left_waiting end qs else q ∷ qs

abbrev pub waits : List Placed → End → Placed → Bool
waits before d q = same_end q.from d && nat_lt (end_of before d) q.place

abbrev pub waiting_in : List Placed → End → List Placed
waiting_in before d = in_order (filter (waits before d) before)

-- An in-order packet releases what its end reaches, in the order of the queue. The others stay.
abbrev pub QueueReleases : Type 0
QueueReleases =
    (before : List Placed) (p : Placed) → p.place ≤ end_of before p.from
    → (turns_at before p
    ≡ record { at = p; own = p } ∷ map (λ q. record { at = p; own = q }) (reached (end_of (before ++ (p ∷ [])) p.from) (waiting_in before p.from)))
    × (waiting_in (before ++ (p ∷ [])) p.from ≡ left_waiting (end_of (before ++ (p ∷ [])) p.from) (waiting_in before p.from))

-- An out-of-order packet releases none, and is inserted into the queue.
abbrev pub QueueTakes : Type 0
QueueTakes =
    (before : List Placed) (p : Placed) → end_of before p.from < p.place
    → (turns_at before p ≡ []) × (end_of (before ++ (p ∷ [])) p.from ≡ end_of before p.from)
    × (waiting_in (before ++ (p ∷ [])) p.from ≡ insert_after p (waiting_in before p.from))

-- A packet leaves the other direction's end and queue unchanged.
abbrev pub QueueStays : Type 0
QueueStays =
    (before : List Placed) (p : Placed)
    → (end_of (before ++ (p ∷ [])) (other p.from) ≡ end_of before (other p.from))
    × (waiting_in (before ++ (p ∷ [])) (other p.from) ≡ waiting_in before (other p.from))

-- ---- of one connection

abbrev pub cells_shown : End → List Shown → List Cell
cells_shown d [] = []
cells_shown d (s ∷ ss) = if same_end s.of d then s.cells ++ cells_shown d ss else cells_shown d ss

-- The messages of a direction are a prefix of its stream: none is skipped, none is invented, none takes another's
-- position.
abbrev pub StreamsAreKept : Type 0
StreamsAreKept =
    (size : List Cell → Option ℕ) (ps : List Placed) (d : End)
    → (rest : List Cell) × (stream_of ps d ≡ cells_shown d (shows_of size ps) ++ rest)

abbrev pub EachShown : (Placed → Type 0) → List Shown → Type 0
EachShown P [] = Unit {0}
EachShown P (s ∷ ss) = P s.at × EachShown P ss

-- Nothing is shown where the log stops, or after it: at the first loss, or the first conflicting retransmission.
abbrev pub NothingAfterALoss : Type 0
NothingAfterALoss =
    (size : List Cell → Option ℕ) (ps : List Placed) (k : ℕ) → (loss [] ps ≡ Some k) ⊎ (difference [] ps ≡ Some k)
    → EachShown (λ at. at.packet < k) (shows_of size ps)

-- One pass over the packets finds a loss. A packet is settled once some of the next 4,096 packets carry its missing
-- data. It is the loss if all of them together do not.
abbrev pub SettledIsSure : Type 0
SettledIsSure =
    (before : List Placed) (p : Placed) (next later : List Placed) → length next ≤ 4096 → is_beyond (before ++ (p ∷ next)) p ≡ false
    → loss before (p ∷ (next ++ later)) ≡ loss (before ++ (p ∷ [])) (next ++ later)

abbrev pub LossIsSure : Type 0
LossIsSure =
    (before : List Placed) (p : Placed) (next later : List Placed) → length next ≡ 4096 → is_beyond (before ++ (p ∷ next)) p ≡ true
    → loss before (p ∷ (next ++ later)) ≡ Some p.packet

-- Holds if a message's own cells give its size, and it has at least one.
pub record IsSize (size : List Cell → Option ℕ) : Type 0 where
  pub there : (cells : List Cell) (n : ℕ) → size cells ≡ Some n → (0 < n) × (n ≤ length cells)
  pub stays : (cells more : List Cell) (n : ℕ) → size cells ≡ Some n → size (cells ++ more) ≡ Some n
  pub emitted : (cells more : List Cell) (n : ℕ) → size (cells ++ more) ≡ Some n → n ≤ length cells → size cells ≡ Some n

-- The sizes of HSMS messages are such sizes.
abbrev pub MessagesHaveSizes : Type 0
MessagesHaveSizes = IsSize message_size

-- The messages of a direction.
abbrev pub messages_shown : End → List Shown → List (List Cell)
messages_shown d [] = []
messages_shown d (s ∷ ss) = if same_end s.of d then s.cells ∷ messages_shown d ss else messages_shown d ss

-- The message at the front of these cells, if it is complete, and what `next` gives after it.
abbrev pub front_and : List Cell → (ℕ → List (List Cell)) → Option ℕ → List (List Cell)
front_and cells next None = []
front_and cells next (Some n) = take n cells ∷ next n

unfoldable pub messages_by : ℕ → (List Cell → Option ℕ) → List Cell → List (List Cell)
messages_by zero size cells = []
messages_by (suc k) size cells = front_and cells (λ n. messages_by k size (drop n cells)) (size cells)

-- The complete messages of a stream, consecutive from its front on.
abbrev pub messages_in : (List Cell → Option ℕ) → List Cell → List (List Cell)
messages_in size cells = messages_by (length cells) size cells

-- Holds for a complete connection: nothing is lost, no cell has a conflicting copy, and no packet resets it.
pub record IsWhole (ps : List Placed) : Type 0 where
  pub nothing_lost : loss [] ps ≡ None
  pub none_differs : difference [] ps ≡ None
  pub never_reset : list_any (λ p. p.reset) ps ≡ false

-- Then each complete message of a stream is shown, in its order, and no other.
abbrev pub AllIsShown : Type 0
AllIsShown =
    (size : List Cell → Option ℕ) (ps : List Placed) (d : End) → IsSize size → IsWhole ps
    → messages_shown d (shows_of size ps) ≡ messages_in size (stream_of ps d)

-- A direction's messages do not depend on how the same cells are cut into packets, repeated or reordered.
abbrev pub AnySegmentsGiveTheSame : Type 0
AnySegmentsGiveTheSame =
    (size : List Cell → Option ℕ) (ps qs : List Placed) (d : End) → IsSize size → IsWhole ps → IsWhole qs
    → ((n : ℕ) → cell_at ps d n ≡ cell_at qs d n) → messages_shown d (shows_of size ps) ≡ messages_shown d (shows_of size qs)

-- Holds if each packet's number is greater than the previous one.
abbrev pub AreNumbered : ℕ → List Seen → Type 0
AreNumbered last [] = Unit {0}
AreNumbered last (s ∷ ss) = (last < s.packet) × AreNumbered s.packet ss

-- A capture that is cut anywhere shows a prefix of what the complete one shows.
abbrev pub FrontOfCapture : Type 0
FrontOfCapture =
    (size : List Cell → Option ℕ) (base : End → ℕ) (first later : List Seen) → IsSize size → AreNumbered 0 (first ++ later)
    → (rest : List Shown) × (wire_shows size base (first ++ later) ≡ wire_shows size base first ++ rest)

-- ---- the entries of a log

-- After the entry that the connection was closed, nothing follows.
abbrev pub DownComesLast : Type 0
DownComesLast =
    (ps : List Placed) (front : List Entry) (e : Entry) (rest : List Entry) → emits ps ≡ front ++ e ∷ rest → e.emitted ≡ down → rest ≡ []

-- A log is empty, or its first entry says that the connection was established, and that once.
abbrev pub UpComesFirst : Type 0
UpComesFirst =
    (ps : List Placed)
    → (emits ps ≡ []) ⊎ ((k : ℕ) × (rest : List Entry) × (emits ps ≡ entry k up ∷ rest) × (has_up rest ≡ false))

-- So the first entry says that it was established, and no other entry does.
abbrev pub OnlyFirstIsUp : Type 0
OnlyFirstIsUp =
    (ps : List Placed) (front : List Entry) (e : Entry) (rest : List Entry) → emits ps ≡ front ++ e ∷ rest
    → (front ≡ [] → e.emitted ≡ up) × (e.emitted ≡ up → front ≡ [])

-- Holds if P holds for the packet of each entry.
abbrev pub EachEntry : (ℕ → Type 0) → List Entry → Type 0
EachEntry P [] = Unit {0}
EachEntry P (e ∷ es) = P e.packet × EachEntry P es

-- Each entry is emitted at a packet of the connection.
abbrev pub EmittedAtPackets : Type 0
EmittedAtPackets =
    (base : End → ℕ) (seen : List Seen) → EachEntry (λ n. list_any (λ s. nat_eq s.packet n) seen ≡ true) (emits (places base [] seen))

-- ---- offsets

-- Holds if these two numbers are equal in 32 bits.
abbrev pub SameNumber : ℕ → ℕ → Type 0
SameNumber m n = m % 2 ^ 32 ≡ n % 2 ^ 32

-- An offset that is found has the number, and is at most 2^26 from the known one. No other is that near.
abbrev pub NearestIsNear : Type 0
NearestIsNear =
    (known number place : ℕ) → number < 2 ^ 32 → nearest known number ≡ Some place
    → SameNumber place number × (place ≤ known + 2 ^ 26) × (known ≤ place + 2 ^ 26)

abbrev pub NearestIsFound : Type 0
NearestIsFound =
    (known number place : ℕ) → number < 2 ^ 32 → SameNumber place number → place ≤ known + 2 ^ 26 → known ≤ place + 2 ^ 26
    → nearest known number ≡ Some place
