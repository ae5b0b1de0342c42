-- The invariant of a connection during a capture: what it has emitted is a prefix of what the definition gives, and the
-- rest follows from its state.
use Rattle.std.specs.Prelude.{◌≡◌, ◌⊎◌, ◌++◌, ◌∷◌, true, ℕ, List, [], map, Option, Some, None, is_some}
use Rattle.capture_tcp.specs.declared.connection.Connection.{Connection}
use Rattle.capture_tcp.specs.declared.ending.Ending.{Ending}
use Rattle.capture_tcp.specs.declared.ending.Ending.TheVariants as ending
use Rattle.capture_tcp.specs.declared.reader_state.Reading.{Reading}
use Rattle.capture_tcp.specs.declared.events.TimedEvent.{TimedEvent}
use Rattle.capture_tcp.specs.TcpStreams.{End, Placed, Seen, places}
use Rattle.capture_tcp.specs.KnownStreams.{Known, known}
use Rattle.capture_tcp.specs.Laws.{AreNumbered}
use Rattle.capture_tcp.specs.EventSteps.{entry_as}
use Rattle.capture_tcp.specs.ConnectionEvents.{Entry, ends_down, emits}
use Rattle.capture_tcp.specs.ReaderState.{AreRising, log_of}
use Rattle.capture_tcp.specs.EndOfStream.{EndsSo, IsShownEnded, ended, is_known}
use Rattle.capture_tcp.specs.PacketArrival.{IsReading}

-- Holds after these segments if the state determines what follows, or how the connection ended, because that is known
-- whatever follows.
abbrev pub StateInvariantAs : Option Ending → Known → Reading → List TimedEvent → (End → ℕ) → List Seen → Type 0
StateInvariantAs None turns reading emitted base seen = (turns ≡ known base (places base [] seen)) × IsReading reading (places base [] seen) emitted
StateInvariantAs (Some e) turns reading emitted base seen =
    IsShownEnded true (places base [] seen) emitted e × (is_known (places base [] seen) ≡ true) × EndsSo true (places base [] seen) emitted

abbrev pub StateInvariant : Connection → List TimedEvent → (End → ℕ) → List Seen → Type 0
StateInvariant c emitted base seen = StateInvariantAs c.ending c.turns c.reading emitted base seen

-- Holds for one more segment, if the numbers of packets increase. The caller may have removed earlier events; then they
-- precede what is left.
abbrev pub TakesOn : Connection → Seen → List TimedEvent → Connection → List TimedEvent → Type 0
TakesOn old s emitted new later =
    (base : End → ℕ) (before : List Seen) (away : List TimedEvent) → AreNumbered 0 (before ++ s ∷ []) → StateInvariant old (away ++ emitted) base before
    → StateInvariant new (away ++ later) base (before ++ s ∷ [])

-- Holds if all events of these segments are emitted, counting the removed ones, with this ending.
abbrev pub EndsAs : Connection → List TimedEvent → List TimedEvent → Ending → Type 0
EndsAs c emitted later e =
    (base : End → ℕ) (seen : List Seen) (away : List TimedEvent) → AreNumbered 0 seen → StateInvariant c (away ++ emitted) base seen
    → (map entry_as (away ++ later) ≡ emits (places base [] seen)) × (e ≡ ended (places base [] seen))

-- What was emitted at any time is a prefix of the events of these segments and any more.
abbrev pub EmittedIsFinal : Type 0
EmittedIsFinal =
    (c : Connection) (emitted : List TimedEvent) (base : End → ℕ) (seen later : List Seen) → StateInvariant c emitted base seen → AreNumbered 0 (seen ++ later)
    → (rest : List Entry) × (emits (places base [] (seen ++ later)) ≡ map entry_as emitted ++ rest)

-- If the ending is known during a capture, it is the ending, whatever follows. All events of these segments and any
-- more were emitted. The connection has ended, or a loss or a conflicting retransmission is final.
abbrev pub EndingIsSure : Type 0
EndingIsSure =
    (c : Connection) (emitted : List TimedEvent) (e : Ending) (base : End → ℕ) (seen later : List Seen) → c.ending ≡ Some e → StateInvariant c emitted base seen
    → AreNumbered 0 (seen ++ later)
    → (map entry_as emitted ≡ emits (places base [] (seen ++ later))) × (e ≡ ended (places base [] (seen ++ later))) × (e ≡ ending.Complete → ⊥)

-- All events of these segments were emitted at the last of them at the latest. The connection has ended at the segment
-- after which its ending is known, whatever follows.
abbrev pub EmittedAtOnce : Type 0
EmittedAtOnce =
    (c : Connection) (emitted : List TimedEvent) (base : End → ℕ) (seen : List Seen) → StateInvariant c emitted base seen → AreNumbered 0 seen
    → (map entry_as emitted ≡ emits (places base [] seen)) × (is_some c.ending ≡ is_known (places base [] seen))

-- Delivery by delivery, a connection that emits anything has ended exactly if it emits that it was closed. One that
-- emits nothing may have ended too: a reset ends an open connection, also before it emits that it was established.
abbrev pub ClosedWhereDown : Type 0
ClosedWhereDown = (ps : List Placed) → AreRising 0 ps → (emits ps ≡ []) ⊎ ((log_of ps).closed ≡ ends_down (emits ps))

-- If it emits that it was closed, it has ended.
abbrev pub DownIsClosed : Type 0
DownIsClosed = (ps : List Placed) → AreRising 0 ps → ends_down (emits ps) ≡ true → ended ps ≡ ending.Closed

-- Once a connection has emitted that it was closed, these are all events of these segments and any more, and it has
-- ended.
abbrev pub DownIsAll : Type 0
DownIsAll =
    (c : Connection) (emitted : List TimedEvent) (base : End → ℕ) (seen later : List Seen) → StateInvariant c emitted base seen → AreNumbered 0 (seen ++ later)
    → ends_down (map entry_as emitted) ≡ true
    → (emits (places base [] (seen ++ later)) ≡ map entry_as emitted) × (ended (places base [] (seen ++ later)) ≡ ending.Closed)
