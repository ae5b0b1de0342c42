-- The events of a connection, one delivery after another. The laws state that they are the entries of a log.
use Rattle.std.specs.Prelude.{◌==◌, Bool, true, false, if◌then◌else◌, ℕ, List, [], ◌∷◌, ◌++◌, length, flat_map, Option, Some, None}
use Rattle.std.specs.Option.{option_map}
use Rattle.capture_tcp.specs.declared.packet.Side.{Side}
use Rattle.capture_tcp.specs.declared.events.Event.{Event}
use Rattle.capture_tcp.specs.declared.events.Event.TheVariants as event
use Rattle.capture_tcp.specs.declared.events.TimedEvent.{TimedEvent}
use Rattle.capture_tcp.specs.declared.events.EmitterState.{EmitterState}
use Rattle.capture_tcp.specs.declared.events.EmitterState.TheVariants as emitter_state
use Rattle.capture_tcp.specs.TcpStreams.{End, Left, Cut, cut_off}
use Rattle.capture_tcp.specs.Message.{message_size}
use Rattle.capture_tcp.specs.ConnectionEvents.{ConnectionEvent, up, message, down, Entry, entry, entry_of, is_separate, is_left_out}
use Rattle.capture_tcp.specs.KnownStreams.{end_at}
use Rattle.capture_tcp.specs.Losses.{side_of}

-- ---- the entries of a log, as events

abbrev pub reported_as : Event → ConnectionEvent
reported_as event.Up = up
reported_as (event.Message from octets) = message (end_at from) octets.items
reported_as event.Down = down

abbrev pub entry_as : TimedEvent → Entry
entry_as h = entry h.packet (reported_as h.event)

-- ---- entry by entry

-- The state, and the emitted entries.
pub record Processed : Type 0 where
  pub state : EmitterState
  pub emitted : List Entry

abbrev pub is_at : Option ℕ → ℕ → Bool
is_at None n = false
is_at (Some m) n = m == n

-- The connection is established, if it is not yet. If an end came before at the same packet, the connection is also
-- closed.
abbrev pub comes_up : EmitterState → ℕ → Processed
comes_up (emitter_state.Waiting early) n =
    if is_at early n then (record { state = emitter_state.Over; emitted = entry n up ∷ entry n down ∷ [] })
    else (record { state = emitter_state.Running None; emitted = entry n up ∷ [] })
comes_up (emitter_state.Running s) n = record { state = emitter_state.Running s; emitted = [] }
comes_up emitter_state.Over n = record { state = emitter_state.Over; emitted = [] }

abbrev pub separated_side : Option Side → Side → Bool → Option Side
separated_side (Some s) d b = Some s
separated_side None d true = Some d
separated_side None d false = None

-- A message of an established connection.
abbrev pub says : EmitterState → ℕ → Side → List ℕ → Processed
says (emitter_state.Waiting early) n d octets = record { state = emitter_state.Waiting early; emitted = [] }
says (emitter_state.Running s) n d octets =
    if is_left_out (option_map end_at s) (end_at d) then (record { state = emitter_state.Running s; emitted = [] })
    else (record { state = emitter_state.Running (separated_side s d (is_separate octets)); emitted = entry n (message (end_at d) octets) ∷ [] })
says emitter_state.Over n d octets = record { state = emitter_state.Over; emitted = [] }

-- The connection is closed, if it is established. Otherwise the packet is only recorded.
abbrev pub closes_down : EmitterState → ℕ → Processed
closes_down (emitter_state.Waiting early) n = record { state = emitter_state.Waiting (Some n); emitted = [] }
closes_down (emitter_state.Running s) n = record { state = emitter_state.Over; emitted = entry n down ∷ [] }
closes_down emitter_state.Over n = record { state = emitter_state.Over; emitted = [] }

abbrev pub and_processed : Processed → (EmitterState → Processed) → Processed
and_processed h f = record { state = (f h.state).state; emitted = h.emitted ++ (f h.state).emitted }

-- A complete message. It establishes the connection, if it is not established yet.
abbrev pub says_first : EmitterState → ℕ → Side → List ℕ → Processed
says_first t n d octets = and_processed (comes_up t n) (λ s. says s n d octets)

abbrev pub process_input : EmitterState → Entry → Processed
process_input t e = process_event t e.packet e.emitted
  where
    process_event : EmitterState → ℕ → ConnectionEvent → Processed
    process_event t n up = comes_up t n
    process_event t n (message d octets) = says_first t n (side_of d) octets
    process_event t n down = closes_down t n

unfoldable pub processes_input : EmitterState → List Entry → Processed
processes_input t [] = record { state = t; emitted = [] }
processes_input t (e ∷ es) = and_processed (process_input t e) (λ s. processes_input s es)

-- ---- the entries of the cells of a message, and of several

abbrev pub cut_entries : End → ℕ → Cut → List Entry
cut_entries d n c = flat_map (λ m. entry_of d n [] m) c.messages

abbrev pub cut_to : ℕ → Left → Cut
cut_to upto l = cut_off (length l.cells) message_size upto l
