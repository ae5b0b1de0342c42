-- Where the directions of a session begin in the packets that were captured of it, of which none has a SYN.
use Rattle.std.specs.Prelude.{◌≡◌, ◌≤◌, ◌<◌, ◌+◌, ◌-◌, ◌%◌, ◌^◌, ◌&&◌, ◌⊎◌, ◌++◌, ℕ, zero, suc, Bool, true, false, not, max, min, nat_le, nat_lt, if◌then◌else◌, List, [], ◌∷◌, length, Option, Some, None, is_some}
use Rattle.std.specs.Option.{unwrap_or}
use Rattle.capture_tcp.specs.declared.packet.Side.{Side}
use Rattle.capture_tcp.specs.declared.packet.Side.TheVariants.{Active, Passive}
use Rattle.capture_tcp.specs.KnownStreams.{end_at}
use Rattle.capture_tcp.specs.Message.{cells_of}
use Rattle.capture_tcp.specs.TcpStreams.{End, Cell, syn, octet, fin, Placed, asks_only, cell_at, or_else}
use Rattle.capture_midstream.specs.declared.buffered_packet.BufferedPacket.{BufferedPacket}
use Rattle.capture_midstream.specs.declared.buffered_packet.Begun.{Begun}
use Rattle.capture_midstream.specs.declared.session_filter.Session.{Session}
use Rattle.capture_midstream.specs.SyncPoint.{IsSureBy, NoMessageAt, SomeMessageAt}
use Rattle.capture_midstream.specs.SequenceNumbers.{from_by}

-- ---- the octets of a direction, by their places

abbrev pub is_same : Side → Side → Bool
is_same Active Active = true
is_same Active Passive = false
is_same Passive Active = false
is_same Passive Passive = true

-- the number of the first packet of a direction, and the first one that the other direction acknowledges
abbrev pub own_of : Side → BufferedPacket → Option ℕ
own_of side g = if is_same g.segment.from side then Some g.segment.number else None

abbrev pub own_number : Side → List BufferedPacket → Option ℕ
own_number side [] = None
own_number side (g ∷ gs) = or_else (own_of side g) (own_number side gs)

abbrev pub acknowledged_of : Side → BufferedPacket → Option ℕ
acknowledged_of side g = if is_same g.segment.from side then None else g.segment.acknowledged

abbrev pub acknowledged_number : Side → List BufferedPacket → Option ℕ
acknowledged_number side [] = None
acknowledged_number side (g ∷ gs) = or_else (acknowledged_of side g) (acknowledged_number side gs)

abbrev pub later_of : Option ℕ → Option ℕ → ℕ
later_of None other = unwrap_or other 0
later_of (Some own) None = own
later_of (Some own) (Some number) = if from_by own number then number else own

-- the first number that is known of a direction: the later one of these
abbrev pub first_number : Side → List BufferedPacket → ℕ
first_number side gs = later_of (own_number side gs) (acknowledged_number side gs)

-- the place of the first number that is known
abbrev pub midst : ℕ
midst = 2 ^ 25

abbrev pub place_by : ℕ → ℕ → ℕ
place_by first number = ((number + 2 ^ 32 - first) % 2 ^ 32 + midst) % 2 ^ 32

-- the number of a place
abbrev pub number_at : ℕ → ℕ → ℕ
number_at first place = (first + (place % 2 ^ 32 + 2 ^ 32 - midst) % 2 ^ 32) % 2 ^ 32

-- octets of a direction at a place
abbrev pub placed_as : Side → ℕ → List ℕ → Placed
placed_as side place octets = record {
  from = end_at side;
  packet = 0;
  time = 0;
  place = place;
  cells = cells_of false octets false;
  acknowledged = None;
  reset = false;
}

-- They count where they are some, end at most 2^25 places from the first number that is known, and don't only ask
-- whether the other end is there still. Those of a RST are none.
abbrev pub counts : ℕ → ℕ → BufferedPacket → Bool
counts acknowledged place g =
    not g.segment.reset
    && (nat_lt 0 (length g.octets.items)
    && (nat_le (place + length g.octets.items) (2 ^ 26)
    && not (asks_only acknowledged place g.segment.flags.pushed (cells_of false g.octets.items false))))

abbrev pub piece_at : Side → ℕ → ℕ → BufferedPacket → List Placed
piece_at side acknowledged place g =
    if counts acknowledged place g then (placed_as side place g.octets.items ∷ []) else []

abbrev pub piece_of : Side → ℕ → ℕ → BufferedPacket → List Placed
piece_of side first acknowledged g =
    if is_same g.segment.from side then piece_at side acknowledged (place_by first g.segment.number) g else []

-- the greatest place that the other direction acknowledges
abbrev pub acknowledged_by : ℕ → ℕ → Option ℕ → ℕ
acknowledged_by first before None = before
acknowledged_by first before (Some number) = max before (place_by first number)

abbrev pub acknowledged_after : Side → ℕ → ℕ → BufferedPacket → ℕ
acknowledged_after side first before g =
    if is_same g.segment.from side then before else acknowledged_by first before g.segment.acknowledged

-- those of all packets, in the order of capture
unfoldable pub pieces_from : Side → ℕ → ℕ → List BufferedPacket → List Placed
pieces_from side first acknowledged [] = []
pieces_from side first acknowledged (g ∷ gs) =
    piece_of side first acknowledged g ++ pieces_from side first (acknowledged_after side first acknowledged g) gs

abbrev pub pieces : Side → List BufferedPacket → List Placed
pieces side gs = pieces_from side (first_number side gs) 0 gs

abbrev pub octet_of : Option Cell → Option ℕ
octet_of None = None
octet_of (Some syn) = None
octet_of (Some (octet n)) = Some n
octet_of (Some fin) = None

-- the octet in a place, of two copies the first
abbrev pub octet_at : List Placed → End → ℕ → Option ℕ
octet_at ps d n = octet_of (cell_at ps d n)

abbrev pub and_more : Option ℕ → List ℕ → List ℕ
and_more None more = []
and_more (Some n) more = n ∷ more

-- the octets from a place on, up to the first that isn't there, of so many
unfoldable pub octets_in : ℕ → (ℕ → Option ℕ) → ℕ → List ℕ
octets_in zero at n = []
octets_in (suc left) at n = and_more (at n) (octets_in left at (n + 1))

-- the first place that was captured, and the one behind the last, beside that of the first number that is known
unfoldable pub lowest : ℕ → List Placed → ℕ
lowest low [] = low
lowest low (p ∷ ps) = lowest (min low p.place) ps

unfoldable pub highest : ℕ → List Placed → ℕ
highest high [] = high
highest high (p ∷ ps) = highest (max high (p.place + length p.cells)) ps

-- the first of so many places before another one from which on none is missing
unfoldable pub unbroken : ℕ → (ℕ → Option ℕ) → ℕ → ℕ
unbroken zero at n = n
unbroken (suc k) at n = if is_some (at (n - 1)) then unbroken k at (n - 1) else n

-- Octets that are missing before the first number that is known were sent before the capture, and so were those before them.
abbrev pub unbroken_from : End → List Placed → ℕ
unbroken_from d ps = unbroken (midst - lowest midst ps) (octet_at ps d) midst

abbrev pub octets_upto : ℕ → (ℕ → Option ℕ) → ℕ → List ℕ
octets_upto upto at n = octets_in (upto - n) at n

abbrev pub octets_from : End → List Placed → ℕ → List ℕ
octets_from d ps n = octets_upto (highest midst ps) (octet_at ps d) n

-- ---- where a direction begins

-- Where what is known of octets begins: at the first place where a message of the session stands whole, and nothing else
-- behind it as far as the octets go, or behind all of them.
pub record BeginsBy (s : Session) (octets : ℕ → List ℕ) (from upto place : ℕ) : Type 0 where
  pub subsequent : from ≤ place
  pub within : place ≤ upto
  pub others : (q : ℕ) → from ≤ q → q < place → NoMessageAt s (octets q)
  pub here : (place ≡ upto) ⊎ SomeMessageAt s (octets place)

abbrev pub BeginsIn : Session → End → List Placed → ℕ → Type 0
BeginsIn s d ps place = BeginsBy s (octets_from d ps) (unbroken_from d ps) (highest midst ps) place

-- a direction begins at this number, as far as these packets tell, and surely or not
abbrev pub BeginsWith : Session → Side → List BufferedPacket → Begun → Type 0
BeginsWith s side gs begun =
    (place : ℕ) × BeginsIn s (end_at side) (pieces side gs) place
    × (begun.number ≡ number_at (first_number side gs) place)
    × IsSureBy s (octets_from (end_at side) (pieces side gs) place) begun.is_sure
