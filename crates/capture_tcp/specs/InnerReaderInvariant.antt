-- What only contracts of private functions use, besides the definitions of `ReaderInvariant`.
use Rattle.std.specs.Prelude.{◌++◌, ◌∷◌, ℕ, List, [], Option, None}
use Rattle.capture_tcp.specs.declared.ending.Ending.{Ending}
use Rattle.capture_tcp.specs.declared.losses.BothEnds.{BothEnds}
use Rattle.capture_tcp.specs.declared.packet.Segment.{Segment}
use Rattle.capture_tcp.specs.declared.packet.Side.{Side}
use Rattle.capture_tcp.specs.declared.packet.Side.TheVariants as side
use Rattle.capture_tcp.specs.declared.reader_state.Reading.{Reading}
use Rattle.capture_tcp.specs.declared.events.TimedEvent.{TimedEvent}
use Rattle.capture_tcp.specs.TcpStreams.{End, Seen}
use Rattle.capture_tcp.specs.KnownStreams.{Known, seen_of}
use Rattle.capture_tcp.specs.Laws.{AreNumbered}
use Rattle.capture_tcp.specs.ReaderInvariant.{StateInvariantAs}

abbrev pub of_side : BothEnds → Side → ℕ
of_side b side.Active = b.active
of_side b side.Passive = b.passive

abbrev pub Followed : Known → Reading → Segment → List ℕ → List TimedEvent → Known → Reading → List TimedEvent → Option Ending → Type 0
Followed old reading segment octets emitted new later_reading later r =
    (base : End → ℕ) (before : List Seen) (away : List TimedEvent) → AreNumbered 0 (before ++ seen_of segment octets ∷ [])
    → StateInvariantAs None old reading (away ++ emitted) base before → StateInvariantAs r new later_reading (away ++ later) base (before ++ seen_of segment octets ∷ [])
