-- What only contracts of private functions use, besides the definitions of `Emitted`.
use Rattle.std.specs.Prelude.{◌≡◌, ◌≤◌, Bool, true, false, ℕ, List, ◌++◌, drop, map, Option}
use Rattle.std.specs.Option.{unwrap_or}
use Rattle.capture_tcp.specs.declared.emitter.Emitter.{Emitter}
use Rattle.capture_tcp.specs.declared.packet.Side.{Side}
use Rattle.capture_tcp.specs.declared.streams.Due.{Due}
use Rattle.capture_tcp.specs.declared.streams.Stream.{Stream}
use Rattle.capture_tcp.specs.declared.streams.Streams.{Streams}
use Rattle.capture_tcp.specs.declared.events.TimedEvent.{TimedEvent}
use Rattle.capture_tcp.specs.TcpStreams.{Cell, Both}
use Rattle.capture_tcp.specs.EventSteps.{entry_as}
use Rattle.capture_tcp.specs.DeliverySteps.{Log, and_log, remains_after, other_side, emit_turns}
use Rattle.capture_tcp.specs.InnerDeliverySteps.{AreLeft, reach, stream_at}
use Rattle.capture_tcp.specs.Emitted.{is_sure, EachDue}

-- Holds if a stream is present up to this offset.
abbrev pub SpansTo : Stream → ℕ → Type 0
SpansTo s end = (s.held.place ≤ s.place) × (s.place ≤ end) × (end ≤ reach s)

abbrev pub Spans : Streams → (Side → ℕ) → Type 0
Spans s ends = (d : Side) → SpansTo (stream_at s d) (ends d)

-- Holds if what is delivered ends within these offsets.
abbrev pub Fits : (Side → ℕ) → Due → Type 0
Fits ends t = (unwrap_or t.packet.acknowledged 0 ≤ ends (other_side t.from)) × (t.packet.to ≤ ends t.from)

-- Holds if what is left is the rest of these streams.
abbrev pub AreTails : List Cell → List Cell → Both → Type 0
AreTails a p b = (b.active.cells ≡ drop b.active.place a) × (b.passive.cells ≡ drop b.passive.place p)

-- The log, up to what is emitted: all of it, if the connection was reset.
abbrev pub log_by : Bool → List TimedEvent → Log → Log
log_by true emitted rest = record { emitted = map entry_as emitted; closed = true }
log_by false emitted rest = and_log (map entry_as emitted) rest

-- Holds if these deliveries were emitted, and those that follow are emitted as before.
abbrev pub HasEmitted : List Due → Emitter → List TimedEvent → Emitter → List TimedEvent → Bool → Type 0
HasEmitted taken old emitted new later closed =
    (b : Both) → AreLeft old.streams b
    → (c : Both) × AreLeft new.streams c × ((x y : List Cell) → AreTails x y b → AreTails x y c)
    × ((rest : List Due)
    → and_log (map entry_as emitted) (emit_turns old.emitter_state old.opened b (taken ++ rest)) ≡ log_by closed later (emit_turns new.emitter_state new.opened c rest))
    × (c ≡ remains_after b taken)

abbrev pub SameStores : Streams → Streams → Type 0
SameStores old new = (new.active.held ≡ old.active.held) × (new.passive.held ≡ old.passive.held)

-- Holds if the deliveries at the front that are before a limit are emitted, up to a reset.
abbrev pub Drains : Option ℕ → List Due → Emitter → List TimedEvent → List Due → Emitter → List TimedEvent → Bool → Type 0
Drains limit queue old emitted left new later closed =
    (ends : Side → ℕ) → Spans old.streams ends → EachDue (λ t. is_sure limit t.at ≡ true → Fits ends t) queue
    → (taken : List Due) × (queue ≡ taken ++ left) × EachDue (λ t. is_sure limit t.at ≡ true) taken × Spans new.streams ends
    × SameStores old.streams new.streams × HasEmitted taken old emitted new later closed
