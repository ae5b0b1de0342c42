-- The times of events: each is the latest time at which a packet of the connection up to the event's own was captured.
use Rattle.std.specs.Prelude.{◌≡◌, ◌≤◌, ◌++◌, ◌∷◌, max, map, nat_le, if◌then◌else◌, ℕ, List, []}
use Rattle.capture_tcp.specs.declared.connection.Connection.{Connection}
use Rattle.capture_tcp.specs.declared.reader_state.Reading.{Reading}
use Rattle.capture_tcp.specs.declared.streams.Due.{Due}
use Rattle.capture_tcp.specs.declared.events.TimedEvent.{TimedEvent}
use Rattle.capture_tcp.specs.TcpStreams.{End, Placed, Seen, places}
use Rattle.capture_tcp.specs.Laws.{AreNumbered}
use Rattle.capture_tcp.specs.ReaderState.{AreRising}
use Rattle.capture_tcp.specs.Emitted.{EachDue}
use Rattle.capture_tcp.specs.ReaderInvariant.{StateInvariant}
use Rattle.capture_tcp.specs.ConnectionEvents.{emits}

-- The latest time of the packets up to a number.
unfoldable pub time_at : List Placed → ℕ → ℕ
time_at [] n = 0
time_at (p ∷ ps) n = if nat_le p.packet n then max p.time (time_at ps n) else time_at ps n

-- Holds if each event has the time of its packet.
abbrev pub AreTimed : (ℕ → ℕ) → List TimedEvent → Type 0
AreTimed time [] = Unit {0}
AreTimed time (h ∷ hs) = (h.time ≡ time h.packet) × AreTimed time hs

abbrev pub AreInOrder : ℕ → List ℕ → Type 0
AreInOrder last [] = Unit {0}
AreInOrder last (t ∷ ts) = (last ≤ t) × AreInOrder t ts

-- If the numbers of packets increase, the times of their events never decrease.
abbrev pub TimesNeverGoBack : Type 0
TimesNeverGoBack = (ps : List Placed) → AreRising 0 ps → AreInOrder 0 (map (λ e. time_at ps e.packet) (emits ps))

-- ---- what code does

abbrev pub AreDueTimed : (ℕ → ℕ) → List Due → Type 0
AreDueTimed time dues = EachDue (λ t. time t.at ≡ t.time) dues

-- Holds if, whatever follows, what was emitted, and what waits to be emitted, has the time of its packet.
abbrev pub IsInTimeOf : Reading → List TimedEvent → List Placed → Type 0
IsInTimeOf r emitted ps =
    (later : List Placed) → AreRising 0 (ps ++ later) → AreDueTimed (time_at (ps ++ later)) r.due.items × AreTimed (time_at (ps ++ later)) emitted

abbrev pub IsInTime : Connection → List TimedEvent → (End → ℕ) → List Seen → Type 0
IsInTime c emitted base seen = IsInTimeOf c.reading emitted (places base [] seen)

-- Holds if one more segment keeps the times. The caller may have removed earlier events.
abbrev pub TakesInTime : Connection → Seen → List TimedEvent → Connection → List TimedEvent → Type 0
TakesInTime old s emitted new later =
    (base : End → ℕ) (before : List Seen) (away : List TimedEvent) → StateInvariant old (away ++ emitted) base before → IsInTime old (away ++ emitted) base before
    → IsInTime new (away ++ later) base (before ++ s ∷ [])

-- Holds if the events of these segments have the times of their packets, including the removed ones.
abbrev pub EndsInTime : Connection → List TimedEvent → List TimedEvent → Type 0
EndsInTime c emitted later =
    (base : End → ℕ) (seen : List Seen) (away : List TimedEvent) → AreNumbered 0 seen → IsInTime c (away ++ emitted) base seen
    → AreTimed (time_at (places base [] seen)) (away ++ later)
