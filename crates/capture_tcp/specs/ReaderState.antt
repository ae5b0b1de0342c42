-- The state of reading a connection during a capture, what it has emitted, and what is still to be emitted.
use Rattle.std.specs.Prelude.{◌≡◌, ◌<◌, ◌≤◌, ◌++◌, ◌∷◌, Bool, true, false, ℕ, min, List, [], drop, map, filter, None}
use Rattle.capture_tcp.specs.declared.streams.Due.{Due}
use Rattle.capture_tcp.specs.declared.streams.Stream.{Stream}
use Rattle.capture_tcp.specs.declared.streams.Streams.{Streams}
use Rattle.capture_tcp.specs.declared.emitter.Emitter.{Emitter}
use Rattle.capture_tcp.specs.declared.events.TimedEvent.{TimedEvent}
use Rattle.capture_tcp.specs.declared.events.EmitterState.TheVariants as emitter_state
use Rattle.capture_tcp.specs.TcpStreams.{End, active, passive, Cell, Placed, Turn, Left, Both, both_streams, left_of, stream_of, end_of, received, turns, breaks_off, is_before}
use Rattle.capture_tcp.specs.ConnectionEvents.{emits}
use Rattle.capture_tcp.specs.Reassembly.{IsStoreOf}
use Rattle.capture_tcp.specs.EventSteps.{entry_as}
use Rattle.capture_tcp.specs.DeliverySteps.{Log, and_log, due_of, remains_after, emit_turns}
use Rattle.capture_tcp.specs.Emitted.{EachDue, is_sure}

-- ---- what all packets emit, delivery by delivery

abbrev pub emitted_dues : List Placed → List Turn → List Due
emitted_dues all ts = map due_of (filter (is_before (breaks_off all)) ts)

abbrev pub log_of : List Placed → Log
log_of all = emit_turns (emitter_state.Waiting None) false (both_streams all) (emitted_dues all (turns [] all))

-- The offset of the first cell of a direction that is not emitted yet.
abbrev pub initial_state : List Placed → End → ℕ
initial_state ps d = (left_of (remains_after (both_streams ps) (emitted_dues ps (turns [] ps))) d).place

-- The offset of the first cell that is not emitted or not acknowledged.
abbrev pub first_kept : List Placed → End → ℕ
first_kept ps d = min (received ps d) (initial_state ps d)

-- ---- during the capture

abbrev pub left_at : ℕ → List Cell → Left
left_at place cells = record { place = place; cells = drop place cells }

-- What is left of the streams, after what was emitted.
abbrev pub lefts : Streams → List Placed → Both
lefts s all = record { active = left_at s.active.place (stream_of all active); passive = left_at s.passive.place (stream_of all passive) }

abbrev pub IsStreamOf : Stream → List Placed → End → Type 0
IsStreamOf s ps d = IsStoreOf s.held ps d × (s.held.place ≤ s.place) × (s.place ≤ end_of ps d) × (s.held.place ≤ received ps d)

abbrev pub AreStreamsOf : Streams → List Placed → Type 0
AreStreamsOf s ps = IsStreamOf s.active ps active × IsStreamOf s.passive ps passive

-- Holds if the packets' numbers increase from 1 on.
abbrev pub AreRising : ℕ → List Placed → Type 0
AreRising last [] = Unit {0}
AreRising last (p ∷ ps) = (last < p.packet) × AreRising p.packet ps

-- Holds if packets with increasing numbers may follow, or none.
abbrev pub MayFollow : Bool → List Placed → List Placed → Type 0
MayFollow true ps later = AreRising 0 (ps ++ later)
MayFollow false ps later = later ≡ []

-- Holds if the log of all packets is what was emitted, then what the deliveries still to come emit.
abbrev pub Continues : Emitter → List Turn → List Placed → List TimedEvent → List Placed → Type 0
Continues t rest ps emitted later =
    log_of (ps ++ later)
    ≡ and_log (map entry_as emitted) (emit_turns t.emitter_state t.opened (lefts t.streams (ps ++ later)) (emitted_dues (ps ++ later) (rest ++ turns ps later)))

-- Holds if these deliveries were emitted: they are before the end of the log, and the streams are what they leave.
abbrev pub HasPassed : Emitter → List Turn → List Placed → Type 0
HasPassed t gone all =
    EachDue (λ (d : Due). is_sure (breaks_off all) d.at ≡ true) (map due_of gone) × (remains_after (both_streams all) (map due_of gone) ≡ lefts t.streams all)

abbrev pub Waits : Bool → Emitter → List Due → List Placed → List TimedEvent → Type 0
Waits more t queue ps emitted =
    (gone : List Turn) × (rest : List Turn) × (turns [] ps ≡ gone ++ rest) × (queue ≡ map due_of rest)
    × ((later : List Placed) → MayFollow more ps later → Continues t rest ps emitted later)
    × ((later : List Placed) → MayFollow more ps later → HasPassed t gone (ps ++ later))

-- A log is what is emitted delivery by delivery, if the numbers of packets increase.
abbrev pub LogIsEmitted : Type 0
LogIsEmitted = (ps : List Placed) → AreRising 0 ps → (log_of ps).emitted ≡ emits ps
