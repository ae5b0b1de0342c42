-- What only contracts of private functions use, besides the definitions of `ConnectionState`.
use Rattle.std.specs.Prelude.{◌+◌, ◌%◌, ◌^◌, ◌&&◌, ◌||◌, ℕ, Bool, true, false, Option, Some, None, is_some}
use Rattle.capture_tcp.specs.declared.packet.Segment.{Segment}
use Rattle.capture_tcp.specs.declared.packet.Side.{Side}
use Rattle.capture_tcp.specs.declared.packet.Side.TheVariants as side
use Rattle.capture_events.specs.declared.tracked_connection.TrackedConnection.{TrackedConnection}
use Rattle.capture_events.specs.declared.connection_state.ConnectionState.{ConnectionState}
use Rattle.capture_events.specs.declared.connection_state.ConnectionState.TheVariants as state
use Rattle.capture_events.specs.ConnectionItems.{is_number}

-- ---- by segments

abbrev pub state_by : Option TrackedConnection → ConnectionState
state_by None = state.Over
state_by (Some o) = state.Tracked o

abbrev pub is_passive : Side → Bool
is_passive side.Active = false
is_passive side.Passive = true

abbrev pub answers : ℕ → Segment → Bool
answers number s = is_passive s.from && (s.flags.syn && is_number s.acknowledged ((number + 1) % 2 ^ 32))

abbrev pub shows : Side → Option ℕ → Bool → Bool
shows side.Active acknowledged some = is_some acknowledged || some
shows side.Passive acknowledged some = some
