-- What only contracts of private functions use, besides the definitions of `Timestamps`.
use Rattle.std.specs.Prelude.{◌≡◌, ◌++◌, ◌∷◌, ℕ, List, [], None}
use Rattle.capture_tcp.specs.declared.packet.Packet.{Packet}
use Rattle.capture_tcp.specs.declared.packet.Segment.{Segment}
use Rattle.capture_tcp.specs.declared.reader_state.Reading.{Reading}
use Rattle.capture_tcp.specs.declared.streams.Due.{Due}
use Rattle.capture_tcp.specs.declared.events.TimedEvent.{TimedEvent}
use Rattle.capture_tcp.specs.TcpStreams.{End, Seen, places}
use Rattle.capture_tcp.specs.KnownStreams.{Known, seen_of}
use Rattle.capture_tcp.specs.ReaderInvariant.{StateInvariantAs}
use Rattle.capture_tcp.specs.Timestamps.{AreTimed, AreDueTimed, IsInTimeOf}

-- ---- what code does

-- Holds if new events are emitted at a packet and its time.
abbrev pub KeepsTimes : ℕ → ℕ → List TimedEvent → List TimedEvent → Type 0
KeepsTimes packet at emitted later = (time : ℕ → ℕ) → time packet ≡ at → AreTimed time emitted → AreTimed time later

-- Holds if new events are emitted at the times of the waiting deliveries, of which some still wait.
abbrev pub EmitsInTime : List Due → List TimedEvent → List Due → List TimedEvent → Type 0
EmitsInTime dues emitted left later = (time : ℕ → ℕ) → AreDueTimed time dues → AreTimed time emitted → AreDueTimed time left × AreTimed time later

-- Holds if the deliveries at a packet wait with its time.
abbrev pub QueuesInTime : Packet → List Due → List Due → Type 0
QueuesInTime p dues later = (time : ℕ → ℕ) → time p.packet ≡ p.time → AreDueTimed time dues → AreDueTimed time later

-- Holds if the emitted events and the waiting deliveries keep their times when a packet arrives.
abbrev pub ReactsInTime : Packet → Reading → List TimedEvent → Reading → List TimedEvent → Type 0
ReactsInTime p old emitted new later =
    (time : ℕ → ℕ) → time p.packet ≡ p.time → AreDueTimed time old.due.items → AreTimed time emitted → AreDueTimed time new.due.items × AreTimed time later

abbrev pub FollowsInTime : Known → Reading → Segment → List ℕ → List TimedEvent → Reading → List TimedEvent → Type 0
FollowsInTime turns old segment octets emitted new later =
    (base : End → ℕ) (before : List Seen) (away : List TimedEvent) → StateInvariantAs None turns old (away ++ emitted) base before
    → IsInTimeOf old (away ++ emitted) (places base [] before) → IsInTimeOf new (away ++ later) (places base [] (before ++ seen_of segment octets ∷ []))
