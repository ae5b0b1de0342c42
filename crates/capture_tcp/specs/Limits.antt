-- When a connection is given up: a stream is too long, or more of it waits than is buffered.
use Rattle.std.specs.Prelude.{◌≡◌, ◌<◌, ◌≤◌, ◌^◌, ◌++◌, ◌∷◌, ℕ, List, [], length, max, None}
use Rattle.capture_tcp.specs.declared.connection.Connection.{Connection}
use Rattle.capture_tcp.specs.declared.connection.ConnectionFault.{ConnectionFault}
use Rattle.capture_tcp.specs.declared.connection.ConnectionFault.TheVariants as stop
use Rattle.capture_tcp.specs.declared.reassembly.ReassemblyFault.{ReassemblyFault}
use Rattle.capture_tcp.specs.declared.reassembly.ReassemblyFault.TheVariants as held
use Rattle.capture_tcp.specs.declared.events.TimedEvent.{TimedEvent}
use Rattle.capture_tcp.specs.declared.delivery.DeliveryFault.{DeliveryFault}
use Rattle.capture_tcp.specs.declared.delivery.DeliveryFault.TheVariants as turns
use Rattle.capture_tcp.specs.TcpStreams.{End, active, passive, Placed, Seen, end_of, places}
use Rattle.capture_tcp.specs.Reassembly.{EndsFar}
use Rattle.capture_tcp.specs.KnownStreams.{placed_after}
use Rattle.capture_tcp.specs.ReaderState.{first_kept}
use Rattle.capture_tcp.specs.ReaderInvariant.{StateInvariant}

-- Holds if a stream is longer than 2^62 cells.
abbrev pub IsFar : List Placed → Type 0
IsFar ps = 2 ^ 62 ≤ max (end_of ps active) (end_of ps passive)

-- Holds if a packet carries cells, and ends more than 2^26 offsets after the first of its direction that is not emitted
-- or not acknowledged.
abbrev pub IsPast : List Placed → Placed → Type 0
IsPast ps p = (0 < length p.cells) × EndsFar (first_kept ps p.from) p.place p.cells

-- Holds if the packet of a segment in the window carries cells and ends that far ahead.
abbrev pub EndsPast : (End → ℕ) → List Placed → Seen → Type 0
EndsPast base ps s = (p : Placed) × (placed_after base ps s ≡ p ∷ []) × IsPast ps p

abbrev pub StopsFor : ConnectionFault → (End → ℕ) → List Placed → Seen → Type 0
StopsFor stop.Far base ps s = IsFar ps
StopsFor stop.Full base ps s = EndsPast base ps s
StopsFor stop.Memory base ps s = Unit {0}

-- Holds if a connection that has not ended is given up for this reason, also if the caller removed earlier events.
abbrev pub StopsBy : Connection → List TimedEvent → Seen → ConnectionFault → Type 0
StopsBy c emitted s fault =
    (c.ending ≡ None)
    × ((base : End → ℕ) (before : List Seen) (away : List TimedEvent) → StateInvariant c (away ++ emitted) base before
    → StopsFor fault base (places base [] before) s)

-- Holds if a connection is given up whenever there is one of these reasons.
abbrev pub ContinuesBy : Connection → List TimedEvent → Seen → Type 0
ContinuesBy c emitted s =
    c.ending ≡ None
    → (base : End → ℕ) (before : List Seen) (away : List TimedEvent) → StateInvariant c (away ++ emitted) base before
    → (IsFar (places base [] before) → ⊥) × (EndsPast base (places base [] before) s → ⊥)

-- ---- what code does

abbrev pub of_turns : DeliveryFault → ConnectionFault
of_turns turns.Far = stop.Far
of_turns turns.Memory = stop.Memory

abbrev pub of_held : ReassemblyFault → ConnectionFault
of_held held.Full = stop.Full
of_held held.Memory = stop.Memory
