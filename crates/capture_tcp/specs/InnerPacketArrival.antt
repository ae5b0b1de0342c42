-- What only contracts of private functions use, besides the definitions of `PacketArrival`.
use Rattle.std.specs.Prelude.{◌≡◌, ◌≤◌, ◌⊎◌, ◌++◌, ◌∷◌, Bool, true, false, ℕ, min, max, List, [], map, Option, Some, None}
use Rattle.capture_tcp.specs.declared.ending.Ending.{Ending}
use Rattle.capture_tcp.specs.declared.losses.BothEnds.{BothEnds}
use Rattle.capture_tcp.specs.declared.losses.Need.{Need}
use Rattle.capture_tcp.specs.declared.packet.Packet.{Packet}
use Rattle.capture_tcp.specs.declared.packet.Side.{Side}
use Rattle.capture_tcp.specs.declared.reader_state.Arrival.{Arrival}
use Rattle.capture_tcp.specs.declared.reader_state.Reading.{Reading}
use Rattle.capture_tcp.specs.declared.streams.Due.{Due}
use Rattle.capture_tcp.specs.declared.streams.Stream.{Stream}
use Rattle.capture_tcp.specs.declared.streams.Streams.{Streams}
use Rattle.capture_tcp.specs.declared.events.TimedEvent.{TimedEvent}
use Rattle.capture_tcp.specs.TcpStreams.{End, active, passive, Cell, Placed, Turn, received, turns, contradicts, difference}
use Rattle.capture_tcp.specs.Reassembly.{Store, IsStoreOf}
use Rattle.capture_tcp.specs.KnownStreams.{packet_of}
use Rattle.capture_tcp.specs.Losses.{IsLoss, IsWatched, Watches, ends_of, first_of, side_of}
use Rattle.capture_tcp.specs.Message.{cells_of}
use Rattle.capture_tcp.specs.ReaderState.{AreRising, AreStreamsOf, Waits}
use Rattle.capture_tcp.specs.EndOfStream.{IsEnded, is_known}
use Rattle.capture_tcp.specs.PacketArrival.{IsKnown, breaks_sure, IsReading}

-- ---- what is carried

-- Holds if a packet carries these cells, or none because it is a keep-alive.
abbrev pub BringsCells : Placed → List Cell → Type 0
BringsCells p cells = (p.cells ≡ []) ⊎ (p.cells ≡ cells)

abbrev pub Brings : Store → ℕ → Packet → List Cell → Store → Bool → Type 0
Brings old acknowledged packet cells new differs =
    (ps : List Placed) (p : Placed) → packet ≡ packet_of p → BringsCells p cells → old.place ≤ acknowledged → IsStoreOf old ps p.from
    → (differs ≡ contradicts ps p.from acknowledged p.place p.cells) × IsStoreOf new (ps ++ p ∷ []) p.from × (new.place ≡ old.place)

abbrev pub arrival_cells : Arrival → List ℕ → List Cell
arrival_cells a octets = cells_of a.flags.syn octets a.flags.fin

abbrev pub BringsTo : Streams → Arrival → List ℕ → Streams → Bool → Type 0
BringsTo old a octets new differs =
    (ps : List Placed) (p : Placed) → a.packet ≡ packet_of p → a.from ≡ side_of p.from → BringsCells p (arrival_cells a octets) → a.acknowledged ≡ received ps p.from
    → AreStreamsOf old ps
    → (differs ≡ contradicts ps p.from (received ps p.from) p.place p.cells) × AreStreamsOf new (ps ++ p ∷ [])
    × (new.active.place ≡ old.active.place) × (new.passive.place ≡ old.passive.place)

abbrev pub or_differs : Option ℕ → Bool → ℕ → Option ℕ
or_differs (Some k) b n = Some k
or_differs None true n = Some n
or_differs None false n = None

-- Holds if what was emitted and acknowledged is dropped.
abbrev pub PassesTo : Stream → ℕ → Stream → Type 0
PassesTo old acknowledged new =
    (new.place ≡ old.place) × (new.held.place ≡ max old.held.place (min acknowledged old.place))
    × ((ps : List Placed) (d : End) → IsStoreOf old.held ps d → IsStoreOf new.held ps d)

-- ---- what is delivered at it

abbrev pub due_as : Packet → Side → Packet → Due
due_as at from packet = record { at = at.packet; time = at.time; from = from; packet = packet }

abbrev pub own_packet : Turn → Packet
own_packet t = packet_of t.own

-- ---- a packet arrives

abbrev pub received_of : List Placed → BothEnds
received_of ps = record { active = received ps active; passive = received ps passive }

abbrev pub IsArrival : Arrival → List ℕ → List Packet → List Placed → Placed → Type 0
IsArrival a octets freed ps p =
    (a.packet ≡ packet_of p) × (a.from ≡ side_of p.from) × BringsCells p (arrival_cells a octets) × (a.acknowledged ≡ received ps p.from)
    × (freed ≡ map own_packet (turns ps (p ∷ []))) × (a.ends ≡ ends_of (ps ++ p ∷ [])) × (a.received ≡ received_of (ps ++ p ∷ []))

-- Holds if the new state is the old one with the arrived packet, except for the missing data.
abbrev pub Arrives : Arrival → List ℕ → List Packet → Reading → Reading → Type 0
Arrives a octets freed old new =
    (ps : List Placed) (p : Placed) → IsArrival a octets freed ps p → difference [] ps ≡ old.differs → AreStreamsOf old.emitter.streams ps
    → (difference [] (ps ++ p ∷ []) ≡ new.differs) × AreStreamsOf new.emitter.streams (ps ++ p ∷ []) × (new.losses ≡ old.losses)
    × ((emitted : List TimedEvent) → Waits true old.emitter old.due.items ps emitted → Waits true new.emitter new.due.items (ps ++ p ∷ []) emitted)

-- Holds if it continues, or it ended because the ending is known.
abbrev pub Outcome : Reading → List Placed → List TimedEvent → Option Ending → Type 0
Outcome r ps emitted None = IsReading r ps emitted
Outcome r ps emitted (Some e) = IsEnded true ps emitted e × (is_known ps ≡ true) × IsWatched 4097 r.losses ps

-- Holds if what is final is emitted. It is appended to what the caller left.
abbrev pub EmitsSettled : BothEnds → Reading → List TimedEvent → Reading → List TimedEvent → Option Ending → Type 0
EmitsSettled acked old emitted new later r =
    (away : List TimedEvent) (ps : List Placed) → AreRising 0 ps → acked ≡ received_of ps → IsKnown old ps (away ++ emitted) → Outcome new ps (away ++ later) r

-- Holds if what is final is emitted, given that there is no conflicting retransmission before which nothing is missing.
abbrev pub EmitsIfSettled : BothEnds → Reading → List TimedEvent → Reading → List TimedEvent → Option Ending → Type 0
EmitsIfSettled acked old emitted new later r = breaks_sure (first_of old.losses) old.differs ≡ false → EmitsSettled acked old emitted new later r

abbrev pub Reacts : Arrival → List ℕ → List Packet → Reading → List TimedEvent → Reading → List TimedEvent → Option Ending → Type 0
Reacts a octets freed old emitted new later r =
    (away : List TimedEvent) (ps : List Placed) (p : Placed) → IsArrival a octets freed ps p → AreRising 0 (ps ++ p ∷ []) → IsReading old ps (away ++ emitted)
    → Outcome new (ps ++ p ∷ []) (away ++ later) r

abbrev pub PassesBoth : Streams → BothEnds → Streams → Type 0
PassesBoth old acked new = PassesTo old.active acked.active new.active × PassesTo old.passive acked.passive new.passive

-- What is known if a packet may be lost.
abbrev pub MayLose : Option ℕ → List Need → List Placed → Type 0
MayLose None needs ps = Watches needs ps
MayLose (Some k) needs ps = IsLoss k ps × IsWatched 4097 needs ps

abbrev pub ContinuesWith : Option ℕ → BothEnds → Reading → List TimedEvent → Reading → List TimedEvent → Option Ending → Type 0
ContinuesWith lost acked old emitted new later r =
    (away : List TimedEvent) (ps : List Placed) → AreRising 0 ps → acked ≡ received_of ps → MayLose lost old.losses ps → difference [] ps ≡ old.differs
    → AreStreamsOf old.emitter.streams ps → Waits true old.emitter old.due.items ps (away ++ emitted) → Outcome new ps (away ++ later) r
