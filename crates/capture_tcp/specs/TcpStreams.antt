-- What the packets show of one connection that starts with a SYN, as messages of both ends in causal order. SYN and FIN
-- have offsets of their own, as in TCP: a stream consists of cells, of which the first is the SYN. So a FIN is a
-- message of one cell, and its ACK is like any other's.
use Rattle.std.specs.Prelude.{max, ℕ, zero, suc, ◌+◌, ◌-◌, ◌%◌, ◌^◌, ◌==◌, ◌&&◌, ◌||◌, not, Bool, true, false, nat_lt, nat_le, min, if◌then◌else◌, List, [], ◌∷◌, ◌++◌, length, take, drop, map, filter, flat_map, slice_get, Option, Some, None, is_some}

pub data End : Type 0 where
  active : End
  passive : End

abbrev pub other : End → End
other active = passive
other passive = active

abbrev pub same_end : End → End → Bool
same_end active active = true
same_end active passive = false
same_end passive active = false
same_end passive passive = true

pub data Cell : Type 0 where
  syn : Cell
  octet : ℕ → Cell
  fin : Cell

abbrev pub same_cell : Cell → Cell → Bool
same_cell syn syn = true
same_cell syn (octet n) = false
same_cell syn fin = false
same_cell (octet m) syn = false
same_cell (octet m) (octet n) = m == n
same_cell (octet m) fin = false
same_cell fin syn = false
same_cell fin (octet n) = false
same_cell fin fin = true

-- A segment as it was captured: the number of its first cell, and whether PSH and RST are set.
pub record Seen : Type 0 where
  pub from : End
  pub packet : ℕ
  pub time : ℕ
  pub number : ℕ
  pub acknowledged : Option ℕ
  pub cells : List Cell
  pub pushed : Bool
  pub reset : Bool

-- A segment by offsets: the offset of its first cell, and the offset in the other direction up to which everything was
-- received. Its time is the latest of the packets up to it.
pub record Placed : Type 0 where
  pub from : End
  pub packet : ℕ
  pub time : ℕ
  pub place : ℕ
  pub cells : List Cell
  pub acknowledged : Option ℕ
  pub reset : Bool

-- ---- buffered cells, and the end of what has no gap

abbrev pub or_else : {A : Type 0} → Option A → Option A → Option A
or_else (Some x) y = Some x
or_else None y = y

abbrev pub cell_in : Placed → End → ℕ → Option Cell
cell_in p d n = if same_end p.from d && nat_le p.place n then slice_get p.cells (n - p.place) else None

-- The first copy counts.
unfoldable pub cell_at : List Placed → End → ℕ → Option Cell
cell_at [] d n = None
cell_at (p ∷ ps) d n = or_else (cell_in p d n) (cell_at ps d n)

unfoldable pub run : ℕ → List Placed → End → ℕ → ℕ
run zero ps d n = n
run (suc k) ps d n = if is_some (cell_at ps d n) then run k ps d (n + 1) else n

-- Nothing is buffered from here on.
unfoldable pub bound : List Placed → ℕ
bound [] = 0
bound (p ∷ ps) = max (p.place + length p.cells) (bound ps)

abbrev pub end_of : List Placed → End → ℕ
end_of ps d = run (bound ps) ps d 0

unfoldable pub cells_up_to : ℕ → List Placed → End → ℕ → List Cell
cells_up_to zero ps d n = []
cells_up_to (suc k) ps d n = if is_some (cell_at ps d n) then option_cell (cell_at ps d n) (cells_up_to k ps d (n + 1)) else []
  where
    option_cell : Option Cell → List Cell → List Cell
    option_cell None cs = cs
    option_cell (Some c) cs = c ∷ cs

abbrev pub stream_of : List Placed → End → List Cell
stream_of ps d = cells_up_to (bound ps) ps d 0

-- ---- deliveries

pub record Turn : Type 0 where
  pub at : Placed
  pub own : Placed

abbrev pub insert_by_place : Placed → List Placed → List Placed
insert_by_place p [] = p ∷ []
insert_by_place p (q ∷ qs) = if nat_le p.place q.place then p ∷ q ∷ qs else q ∷ insert_by_place p qs

abbrev pub in_order : List Placed → List Placed
in_order [] = []
in_order (p ∷ ps) = insert_by_place p (in_order ps)

-- An out-of-order packet is not delivered when it arrives, and releases none. Otherwise it is delivered, and then those
-- that it releases.
abbrev pub turns_at : List Placed → Placed → List Turn
turns_at before p =
    if nat_lt (end_of before p.from) p.place then [] else
    (record { at = p; own = p } ∷ map (λ q. record { at = p; own = q })
    (in_order (filter (λ q. same_end q.from p.from && nat_lt (end_of before p.from) q.place && nat_le q.place (end_of (before ++ (p ∷ [])) p.from)) before)))

unfoldable pub turns : List Placed → List Placed → List Turn
turns before [] = []
turns before (p ∷ ps) = turns_at before p ++ turns (before ++ (p ∷ [])) ps

-- The offset after which an end's cells are not acknowledged yet, by the in-order packets of the other end.
abbrev pub acknowledges : End → Turn → ℕ
acknowledges d t = if same_end t.own.from d then 0 else (at t.own.acknowledged)
  where
    at : Option ℕ → ℕ
    at None = 0
    at (Some n) = n

abbrev pub greatest_acknowledged : End → List Turn → ℕ
greatest_acknowledged d [] = 0
greatest_acknowledged d (t ∷ ts) = max (acknowledges d t) (greatest_acknowledged d ts)

abbrev pub received : List Placed → End → ℕ
received before d = greatest_acknowledged d (turns [] before)

-- The offset after which no packet of the other end, in order or not, acknowledges an end's cells.
abbrev pub confirmed_by : End → Placed → ℕ
confirmed_by d p = if same_end p.from d then 0 else (at p.acknowledged)
  where
    at : Option ℕ → ℕ
    at None = 0
    at (Some n) = n

abbrev pub confirmed : List Placed → End → ℕ
confirmed [] d = 0
confirmed (p ∷ ps) d = max (confirmed_by d p) (confirmed ps d)

-- ---- offsets

-- The offset with this number that is nearest to a known offset, and at most 2^26 from it.
abbrev pub nearest : ℕ → ℕ → Option ℕ
nearest known number =
    (let ahead = (number + 2 ^ 32 - known % 2 ^ 32) % 2 ^ 32 in
    if nat_le ahead (2 ^ 26) then Some (known + ahead) else
    (if nat_le (2 ^ 32 - ahead) (min known (2 ^ 26)) then Some (known - (2 ^ 32 - ahead)) else None))

-- The offset with this number in a stream whose SYN has the number `base`.
abbrev pub place_of : ℕ → ℕ → ℕ → Option ℕ
place_of known base number = nearest known ((number + 2 ^ 32 - base) % 2 ^ 32)

-- An ACK that is too far away is ignored.
abbrev pub acknowledged_at : ℕ → ℕ → Option ℕ → Option ℕ
acknowledged_at known base None = None
acknowledged_at known base (Some number) = place_of known base number

abbrev pub ack_place : List Placed → (End → ℕ) → End → Option ℕ → Option ℕ
ack_place before base d a = acknowledged_at (end_of before d) (base d) a

-- One byte without PSH at an offset that was acknowledged before is a keep-alive. It carries nothing.
abbrev pub asks_only : ℕ → ℕ → Bool → List Cell → Bool
asks_only acknowledged place pushed [] = false
asks_only acknowledged place pushed (syn ∷ cs) = false
asks_only acknowledged place pushed (fin ∷ cs) = false
asks_only acknowledged place pushed (octet n ∷ []) = not pushed && nat_lt place acknowledged
asks_only acknowledged place pushed (octet n ∷ (c ∷ cs)) = false

-- True if the other end takes a RST at this offset. It ignores one at an offset that was acknowledged before. It takes
-- one without ACK only at the next byte, so not after a gap.
abbrev pub is_taken : ℕ → ℕ → Option ℕ → ℕ → Bool
is_taken end acknowledged ack place = nat_le acknowledged place && (is_some ack || nat_le place end)

-- A RST carries no cells: its payload is text for a reader. One that is ignored resets nothing.
abbrev pub placed_at : ℕ → ℕ → Seen → Option ℕ → Option ℕ → List Placed
placed_at end acknowledged s None ack = []
placed_at end acknowledged s (Some place) ack =
    record {
      from = s.from;
      packet = s.packet;
      time = s.time;
      place = place;
      cells = if s.reset || asks_only acknowledged place s.pushed s.cells then [] else s.cells;
      acknowledged = ack;
      reset = s.reset && is_taken end acknowledged s.acknowledged place;
    } ∷ []

-- The latest time of these packets.
abbrev pub latest : List Placed → ℕ
latest [] = 0
latest (p ∷ ps) = max p.time (latest ps)

-- The clock of a capture may go back, but time does not: a segment's time is the latest of the packets up to it.
abbrev pub timed : List Placed → Seen → Seen
timed before s = record s { time = max (latest before) s.time }

-- `base` is the sequence number of each end's SYN.
unfoldable pub places : (End → ℕ) → List Placed → List Seen → List Placed
places base before [] = before
places base before (s ∷ ss) =
    places base (before ++ placed_at (end_of before s.from) (confirmed before s.from) (timed before s) (place_of (end_of before s.from) (base s.from) s.number)
    (ack_place before base (other s.from) s.acknowledged)) ss

-- ---- loss

abbrev pub is_past : List Placed → Placed → Bool
is_past known p = past p.acknowledged
  where
    past : Option ℕ → Bool
    past None = false
    past (Some n) = nat_lt (end_of known (other p.from)) n

-- True for a packet that acknowledges what is not buffered, or is out of order, if these are known.
abbrev pub is_beyond : List Placed → Placed → Bool
is_beyond known p = is_past known p || nat_lt (end_of known p.from) p.place

-- The first packet that acknowledges what neither it, nor an earlier one, nor one of the next 4,096 carries, or that
-- follows a gap that none of them fills.
unfoldable pub loss : List Placed → List Placed → Option ℕ
loss before [] = None
loss before (p ∷ ps) = if is_beyond (before ++ (p ∷ take 4096 ps)) p then Some p.packet else loss (before ++ (p ∷ [])) ps

-- The first of these packets that acknowledges what is not buffered, if these are known.
abbrev pub first_past : List Placed → List Placed → Option ℕ
first_past known [] = None
first_past known (q ∷ qs) = if is_past known q then Some q.packet else first_past known qs

-- The packet that shows a loss: of that packet and the next 4,096, the first that acknowledges what none of these and
-- of those before carries; or the packet itself, if none does.
unfoldable pub loss_shown : List Placed → List Placed → Option ℕ
loss_shown before [] = None
loss_shown before (p ∷ ps) =
    if is_beyond (before ++ (p ∷ take 4096 ps)) p then or_else (first_past (before ++ (p ∷ take 4096 ps)) (p ∷ take 4096 ps)) (Some p.packet) else
    loss_shown (before ++ (p ∷ [])) ps

-- ---- conflicting copies

abbrev pub is_other : Cell → Option Cell → Bool
is_other c None = false
is_other c (Some d) = not (same_cell c d)

-- True if a cell that is not acknowledged yet differs from the one buffered at its offset.
abbrev pub contradicts : List Placed → End → ℕ → ℕ → List Cell → Bool
contradicts before d acknowledged place [] = false
contradicts before d acknowledged place (c ∷ cs) =
    (nat_le acknowledged place && is_other c (cell_at before d place)) || contradicts before d acknowledged (place + 1) cs

-- The first packet whose cells differ from those of an earlier one.
unfoldable pub difference : List Placed → List Placed → Option ℕ
difference before [] = None
difference before (p ∷ ps) =
    if contradicts before p.from (received before p.from) p.place p.cells then Some p.packet else difference (before ++ (p ∷ [])) ps

-- ---- the end of the log

abbrev pub earlier : Option ℕ → Option ℕ → Option ℕ
earlier None k = k
earlier (Some j) None = Some j
earlier (Some j) (Some k) = Some (min j k)

abbrev pub breaks_off : List Placed → Option ℕ
breaks_off ps = earlier (loss [] ps) (difference [] ps)

abbrev pub is_before : Option ℕ → Turn → Bool
is_before None t = true
is_before (Some k) t = nat_lt t.at.packet k

-- True if the connection is open: the SYN of the passive end is acknowledged, or what follows a SYN is acknowledged or
-- carried.
abbrev pub is_open : Turn → Bool
is_open t = nat_le 1 (acknowledges passive t) || nat_le 2 (acknowledges active t) || nat_le 2 (t.own.place + length t.own.cells)

-- A reset ends both streams of an open connection. One before that ends nothing.
abbrev pub up_to_reset : Bool → List Turn → List Turn
up_to_reset opened [] = []
up_to_reset opened (t ∷ ts) = if t.own.reset && (opened || is_open t) then t ∷ [] else t ∷ up_to_reset (opened || is_open t) ts

abbrev pub emitted_turns : List Placed → List Turn
emitted_turns ps = up_to_reset false (filter (is_before (breaks_off ps)) (turns [] ps))

-- ---- what a packet delivers: first what it acknowledges, then what it carries

pub record Delivery : Type 0 where
  pub of : End
  pub upto : ℕ
  pub at : Placed

abbrev pub deliveries : Turn → List Delivery
deliveries t = by_ack t.own.acknowledged ++ (record { of = t.own.from; upto = t.own.place + length t.own.cells; at = t.at } ∷ [])
  where
    by_ack : Option ℕ → List Delivery
    by_ack None = []
    by_ack (Some n) = record { of = other t.own.from; upto = n; at = t.at } ∷ []

-- ---- messages

-- What is left of a stream, from an offset on.
pub record Left : Type 0 where
  pub place : ℕ
  pub cells : List Cell

pub record Cut : Type 0 where
  pub messages : List (List Cell)
  pub left : Left

abbrev pub and_then : List Cell → Cut → Cut
and_then m c = record { messages = m ∷ c.messages; left = c.left }

-- The message at the front is cut off, if it is complete and ends by an offset. `next` continues after it.
abbrev pub cut_by : ℕ → Left → (ℕ → Cut) → Option ℕ → Cut
cut_by upto l next None = record { messages = []; left = l }
cut_by upto l next (Some n) = if nat_lt upto (l.place + n) then record { messages = []; left = l } else and_then (take n l.cells) (next n)

-- `size` returns the number of cells of the message at the front, if it is complete.
unfoldable pub cut_off : ℕ → (List Cell → Option ℕ) → ℕ → Left → Cut
cut_off zero size upto l = record { messages = []; left = l }
cut_off (suc k) size upto l =
    cut_by upto l (λ n. cut_off k size upto (record { place = l.place + n; cells = drop n l.cells })) (size l.cells)

pub record Shown : Type 0 where
  pub of : End
  pub cells : List Cell
  pub at : Placed

-- What is left of both streams.
pub record Both : Type 0 where
  pub active : Left
  pub passive : Left

abbrev pub left_of : Both → End → Left
left_of b active = b.active
left_of b passive = b.passive

abbrev pub with_left : Both → End → Left → Both
with_left b active l = record b { active = l }
with_left b passive l = record b { passive = l }

abbrev pub delivered : (List Cell → Option ℕ) → Both → Delivery → Cut
delivered size b d = cut_off (length (left_of b d.of).cells) size d.upto (left_of b d.of)

unfoldable pub show : (List Cell → Option ℕ) → Both → List Delivery → List Shown
show size b [] = []
show size b (d ∷ ds) =
    map (λ m. record { of = d.of; cells = m; at = d.at }) (delivered size b d).messages ++ show size (with_left b d.of (delivered size b d).left) ds

abbrev pub both_streams : List Placed → Both
both_streams ps = record { active = record { place = 0; cells = stream_of ps active }; passive = record { place = 0; cells = stream_of ps passive } }

abbrev pub shows_of : (List Cell → Option ℕ) → List Placed → List Shown
shows_of size ps = show size (both_streams ps) (flat_map deliveries (emitted_turns ps))

abbrev pub wire_shows : (List Cell → Option ℕ) → (End → ℕ) → List Seen → List Shown
wire_shows size base segments = shows_of size (places base [] segments)
