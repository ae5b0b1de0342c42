-- What only contracts of private functions use, besides the definitions of `Limits`.
use Rattle.std.specs.Prelude.{◌≡◌, ◌++◌, ℕ, List, [], None}
use Rattle.capture_tcp.specs.declared.connection.ConnectionFault.{ConnectionFault}
use Rattle.capture_tcp.specs.declared.reassembly.ReassemblyFault.{ReassemblyFault}
use Rattle.capture_tcp.specs.declared.reassembly.ReassemblyFault.TheVariants as held
use Rattle.capture_tcp.specs.declared.packet.Packet.{Packet}
use Rattle.capture_tcp.specs.declared.packet.Segment.{Segment}
use Rattle.capture_tcp.specs.declared.reader_state.Arrival.{Arrival}
use Rattle.capture_tcp.specs.declared.reader_state.Reading.{Reading}
use Rattle.capture_tcp.specs.declared.streams.Streams.{Streams}
use Rattle.capture_tcp.specs.declared.events.TimedEvent.{TimedEvent}
use Rattle.capture_tcp.specs.TcpStreams.{End, Cell, Seen, places}
use Rattle.capture_tcp.specs.Reassembly.{EndsFar, Store}
use Rattle.capture_tcp.specs.WithinWindow.{StaysNear}
use Rattle.capture_tcp.specs.KnownStreams.{Known, seen_of}
use Rattle.capture_tcp.specs.InnerDeliverySteps.{stream_at}
use Rattle.capture_tcp.specs.InnerPacketArrival.{arrival_cells}
use Rattle.capture_tcp.specs.ReaderInvariant.{StateInvariantAs}
use Rattle.capture_tcp.specs.Limits.{IsFar, EndsPast, StopsFor}

-- ---- what code does

-- Holds if what a packet carries ends outside the window.
abbrev pub IsFull : Store → Packet → List Cell → Type 0
IsFull s packet cells = (packet.from ≡ packet.to → ⊥) × EndsFar s.place packet.from cells

abbrev pub IsFullAt : Streams → Arrival → List ℕ → Type 0
IsFullAt s a octets = IsFull (stream_at s a.from).held a.packet (arrival_cells a octets)

abbrev pub FullIf : ReassemblyFault → Type 0 → Type 0
FullIf held.Full A = A
FullIf held.Memory A = Unit {0}

-- Holds if what an accepted packet carries ends inside the window.
abbrev pub IsNear : Store → Packet → List Cell → Type 0
IsNear s packet cells = (packet.from ≡ packet.to → ⊥) → StaysNear s.place packet.from cells

abbrev pub IsNearAt : Streams → Arrival → List ℕ → Type 0
IsNearAt s a octets = IsNear (stream_at s a.from).held a.packet (arrival_cells a octets)

abbrev pub StopsAt : Known → Reading → Segment → List ℕ → List TimedEvent → ConnectionFault → Type 0
StopsAt turns r segment octets emitted fault =
    (base : End → ℕ) (before : List Seen) (away : List TimedEvent) → StateInvariantAs None turns r (away ++ emitted) base before
    → StopsFor fault base (places base [] before) (seen_of segment octets)

abbrev pub ContinuesAt : Known → Reading → Segment → List ℕ → List TimedEvent → Type 0
ContinuesAt turns r segment octets emitted =
    (base : End → ℕ) (before : List Seen) (away : List TimedEvent) → StateInvariantAs None turns r (away ++ emitted) base before
    → (IsFar (places base [] before) → ⊥) × (EndsPast base (places base [] before) (seen_of segment octets) → ⊥)
