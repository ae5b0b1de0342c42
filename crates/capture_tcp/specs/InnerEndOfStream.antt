-- What only contracts of private functions use, besides the definitions of `EndOfStream`.
use Rattle.std.specs.Prelude.{◌≡◌, ◌++◌, ◌∷◌, Bool, false, ℕ, List, [], Option}
use Rattle.capture_tcp.specs.declared.ending.Ending.{Ending}
use Rattle.capture_tcp.specs.declared.streams.Due.{Due}
use Rattle.capture_tcp.specs.declared.emitter.Emitter.{Emitter}
use Rattle.capture_tcp.specs.declared.events.TimedEvent.{TimedEvent}
use Rattle.capture_tcp.specs.TcpStreams.{Placed, Turn, turns, loss, difference, earlier, breaks_off}
use Rattle.capture_tcp.specs.Emitted.{is_sure}
use Rattle.capture_tcp.specs.ReaderState.{AreRising, AreStreamsOf, MayFollow, Waits}
use Rattle.capture_tcp.specs.EndOfStream.{broken, IsEnded}

-- ---- what code does

abbrev pub EachAfter : Option ℕ → List Turn → Type 0
EachAfter limit [] = Unit {0}
EachAfter limit (t ∷ ts) = (is_sure limit t.at.packet ≡ false) × EachAfter limit ts

-- Holds if, whatever follows, the log stops at a packet, and what follows comes after it.
abbrev pub BreaksAt : Bool → Option ℕ → Ending → List Placed → Type 0
BreaksAt more limit e ps =
    (later : List Placed) → MayFollow more ps later
    → (breaks_off (ps ++ later) ≡ limit) × (e ≡ broken (loss [] (ps ++ later)) (difference [] (ps ++ later))) × EachAfter limit (turns ps later)

-- Holds if, after a stop by a loss or a conflicting retransmission, everything before it is emitted. It is appended to
-- what the caller left.
abbrev pub Finishes : Option ℕ → Option ℕ → Emitter → List Due → List TimedEvent → List TimedEvent → Ending → Type 0
Finishes lost differs old queue emitted later e =
    (away : List TimedEvent) (more : Bool) (ps : List Placed) → AreRising 0 ps → MayFollow more ps [] → AreStreamsOf old.streams ps
    → BreaksAt more (earlier lost differs) (broken lost differs) ps → Waits more old queue ps (away ++ emitted) → IsEnded more ps (away ++ later) e
