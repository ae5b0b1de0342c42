-- The state of reading a connection, and how it changes when a packet arrives.
use Rattle.std.specs.Prelude.{◌≡◌, Bool, true, false, nat_le, ℕ, List, [], Option, Some, None}
use Rattle.capture_tcp.specs.declared.reader_state.Reading.{Reading}
use Rattle.capture_tcp.specs.declared.streams.Streams.{Streams}
use Rattle.capture_tcp.specs.declared.events.TimedEvent.{TimedEvent}
use Rattle.capture_tcp.specs.TcpStreams.{active, passive, Placed, difference, earlier}
use Rattle.capture_tcp.specs.Losses.{Watches, first_of}
use Rattle.capture_tcp.specs.DeliverySteps.{is_over}
use Rattle.capture_tcp.specs.ReaderState.{AreStreamsOf, Waits, first_kept}
use Rattle.capture_tcp.specs.Emitted.{IsHeldBack}

-- ---- a packet arrives

-- Holds if the state agrees with these packets and the emitted events.
abbrev pub IsKnown : Reading → List Placed → List TimedEvent → Type 0
IsKnown r ps emitted = Watches r.losses ps × (difference [] ps ≡ r.differs) × AreStreamsOf r.emitter.streams ps × Waits true r.emitter r.due.items ps emitted

-- Holds if what waits is at or after a packet with missing data or a conflict.
abbrev pub IsPrompt : Reading → Type 0
IsPrompt r = IsHeldBack (earlier (first_of r.losses) r.differs) r.due.items

-- Holds if what is emitted and acknowledged is not buffered.
abbrev pub HoldsFrom : Streams → List Placed → Type 0
HoldsFrom s ps = (s.active.held.place ≡ first_kept ps active) × (s.passive.held.place ≡ first_kept ps passive)

-- True if a retransmission conflicts, and no packet before it has missing data.
abbrev pub is_first : Option ℕ → ℕ → Bool
is_first None k = true
is_first (Some j) k = nat_le k j

abbrev pub breaks_sure : Option ℕ → Option ℕ → Bool
breaks_sure first None = false
breaks_sure first (Some k) = is_first first k

-- Holds if nothing has ended it.
abbrev pub IsUnended : Reading → Type 0
IsUnended r = (is_over r.emitter.emitter_state ≡ false) × (breaks_sure (first_of r.losses) r.differs ≡ false)

abbrev pub IsReading : Reading → List Placed → List TimedEvent → Type 0
IsReading r ps emitted = IsKnown r ps emitted × IsPrompt r × HoldsFrom r.emitter.streams ps × IsUnended r
