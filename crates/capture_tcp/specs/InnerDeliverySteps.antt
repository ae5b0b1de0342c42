-- What only contracts of private functions use, besides the definitions of `DeliverySteps`.
use Rattle.std.specs.Prelude.{◌≡◌, ◌≤◌, ◌+◌, Bool, ℕ, max, List, length}
use Rattle.std.specs.Option.{unwrap_or}
use Rattle.capture_tcp.specs.declared.framing.Delivery.{Delivery}
use Rattle.capture_tcp.specs.declared.packet.Side.{Side}
use Rattle.capture_tcp.specs.declared.packet.Side.TheVariants as side
use Rattle.capture_tcp.specs.declared.streams.Due.{Due}
use Rattle.capture_tcp.specs.declared.streams.Stream.{Stream}
use Rattle.capture_tcp.specs.declared.streams.Streams.{Streams}
use Rattle.capture_tcp.specs.declared.events.TimedEvent.{TimedEvent}
use Rattle.capture_tcp.specs.declared.events.EmitterState.{EmitterState}
use Rattle.capture_tcp.specs.TcpStreams.{Both}
use Rattle.capture_tcp.specs.Reassembly.{piece_from}
use Rattle.capture_tcp.specs.EventSteps.{processes_input}
use Rattle.capture_tcp.specs.InnerEventSteps.{ProcessesInput, IsLeft}
use Rattle.capture_tcp.specs.DeliverySteps.{other_side, Given, given, by_ack, delivers, entries_at}

-- ---- what code does

abbrev pub stream_at : Streams → Side → Stream
stream_at s side.Active = s.active
stream_at s side.Passive = s.passive

-- Holds if what is left of both streams starts with what is buffered.
abbrev pub AreLeft : Streams → Both → Type 0
AreLeft s b = IsLeft s.active.held s.active.place b.active × IsLeft s.passive.held s.passive.place b.passive

-- The offset up to which a stream has no gap.
abbrev pub reach : Stream → ℕ
reach s = s.place + length (piece_from s.held s.place)

abbrev pub Reaches : Streams → Delivery → Type 0
Reaches s d = d.upto ≤ reach (stream_at s d.of)

-- Holds if everything that a packet delivers is present.
abbrev pub ReachesAll : Streams → Due → Type 0
ReachesAll s t = (unwrap_or t.packet.acknowledged 0 ≤ reach (stream_at s (other_side t.from))) × (t.packet.to ≤ reach (stream_at s t.from))

-- Holds if the buffered cells are unchanged, and no offset decreases or passes what is delivered.
abbrev pub SameHeld : Streams → Streams → Type 0
SameHeld old new = (new.active.held ≡ old.active.held) × (new.passive.held ≡ old.passive.held)

abbrev pub MovesTo : Stream → ℕ → Stream → Type 0
MovesTo old upto new = (new.held ≡ old.held) × (old.place ≤ new.place) × (new.place ≤ max old.place upto)

-- Holds if the streams advance by what is given, and it is emitted.
abbrev pub Gives : (Both → Given) → Streams → List TimedEvent → EmitterState → Streams → List TimedEvent → EmitterState → Type 0
Gives g old emitted state new after now =
    (b : Both) → AreLeft old b → ProcessesInput (processes_input state (g b).entries) emitted now after × AreLeft new (g b).both

abbrev pub Delivers : Delivery → Streams → List TimedEvent → EmitterState → Streams → List TimedEvent → EmitterState → Type 0
Delivers d old emitted state new after now = Reaches old d → Gives (given d) old emitted state new after now

-- Holds if one direction advances, and the other is unchanged.
abbrev pub Moves : Delivery → Streams → Streams → Type 0
Moves d old new =
    MovesTo (stream_at old d.of) d.upto (stream_at new d.of) × (stream_at new (other_side d.of) ≡ stream_at old (other_side d.of))

abbrev pub emitted_at : Bool → Due → Both → Given
emitted_at opened t b = record { entries = entries_at opened t b; both = (delivers t b).both }

abbrev pub TakesTurn : Bool → Due → Streams → List TimedEvent → EmitterState → Streams → List TimedEvent → EmitterState → Type 0
TakesTurn opened t old emitted state new after now =
    ReachesAll old t
    → Gives (emitted_at opened t) old emitted state new after now
    × MovesTo (stream_at old (other_side t.from)) (unwrap_or t.packet.acknowledged 0) (stream_at new (other_side t.from))
    × MovesTo (stream_at old t.from) t.packet.to (stream_at new t.from)

abbrev pub Acknowledges : Due → Streams → List TimedEvent → EmitterState → Streams → List TimedEvent → EmitterState → Type 0
Acknowledges t old emitted state new after now =
    unwrap_or t.packet.acknowledged 0 ≤ reach (stream_at old (other_side t.from)) → Gives (by_ack t t.packet.acknowledged) old emitted state new after now

abbrev pub AckMoves : Due → Streams → Streams → Type 0
AckMoves t old new =
    MovesTo (stream_at old (other_side t.from)) (unwrap_or t.packet.acknowledged 0) (stream_at new (other_side t.from))
    × (stream_at new t.from ≡ stream_at old t.from)
