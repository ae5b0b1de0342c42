-- What only contracts of private functions use, besides the definitions of `ReaderState`.
use Rattle.std.specs.Prelude.{◌≡◌, ◌++◌, Bool, true, false, ℕ, List, [], map, Option}
use Rattle.capture_tcp.specs.declared.streams.Due.{Due}
use Rattle.capture_tcp.specs.declared.emitter.Emitter.{Emitter}
use Rattle.capture_tcp.specs.declared.events.TimedEvent.{TimedEvent}
use Rattle.capture_tcp.specs.TcpStreams.{Placed, breaks_off}
use Rattle.capture_tcp.specs.EventSteps.{entry_as}
use Rattle.capture_tcp.specs.DeliverySteps.{is_over}
use Rattle.capture_tcp.specs.Emitted.{IsHeldBack, is_sure}
use Rattle.capture_tcp.specs.ReaderState.{log_of, AreStreamsOf, AreRising, MayFollow, Waits}

-- ---- during the capture

-- Holds if, whatever follows, everything before the limit is before the end of the log.
abbrev pub IsLimit : Bool → Option ℕ → List Placed → Type 0
IsLimit more limit ps =
    (later : List Placed) → MayFollow more ps later → (n : ℕ) → AreRising n later → is_sure limit n ≡ true → is_sure (breaks_off (ps ++ later)) n ≡ true

-- Holds if it ended, whatever follows.
abbrev pub IsClosed : Bool → List Placed → List TimedEvent → Type 0
IsClosed more ps emitted = (later : List Placed) → MayFollow more ps later → log_of (ps ++ later) ≡ record { emitted = map entry_as emitted; closed = true }

-- Holds if it continues.
abbrev pub IsOpen : Bool → Option ℕ → Emitter → List Due → List Placed → List TimedEvent → Type 0
IsOpen more limit t queue ps emitted = Waits more t queue ps emitted × IsHeldBack limit queue × (is_over t.emitter_state ≡ false)

abbrev pub by_closed : Bool → Type 0 → Type 0 → Type 0
by_closed true A B = A
by_closed false A B = B

-- Holds if what comes before a limit is emitted, up to the end of the connection, after what was emitted before. The
-- caller may have removed some of that.
abbrev pub EmitsBefore : Option ℕ → Emitter → List Due → List TimedEvent → Emitter → List Due → List TimedEvent → Bool → Type 0
EmitsBefore limit old queue emitted new left later closed =
    (away : List TimedEvent) (more : Bool) (ps : List Placed) → AreRising 0 ps → MayFollow more ps [] → AreStreamsOf old.streams ps → IsLimit more limit ps
    → Waits more old queue ps (away ++ emitted)
    → AreStreamsOf new.streams ps × by_closed closed (IsClosed more ps (away ++ later)) (IsOpen more limit new left ps (away ++ later))
