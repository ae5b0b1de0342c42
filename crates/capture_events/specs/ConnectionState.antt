-- The state of a connection by the sequence number of the active end's SYN.
use Rattle.std.specs.Prelude.{◌≡◌, ◌≤◌, ◌&&◌, ◌||◌, ℕ, if◌then◌else◌, Bool, true, List, [], ◌∷◌, ◌++◌, map, length, Option, Some, None, is_none}
use Rattle.capture_log.specs.declared.socket_pair.Pair.{Pair}
use Rattle.capture_tcp.specs.KnownStreams.{bases}
use Rattle.capture_tcp.specs.Laws.{AreNumbered}
use Rattle.capture_tcp.specs.TcpStreams.{Seen}
use Rattle.capture_events.specs.declared.event.Event.{Event}
use Rattle.capture_events.specs.declared.incomplete.Shortfall.{Shortfall}
use Rattle.capture_events.specs.declared.connection_state.ConnectionState.{ConnectionState}
use Rattle.capture_events.specs.declared.connection_state.ConnectionState.TheVariants as state
use Rattle.capture_events.specs.ConnectionItems.{answered_by, ends, first_shown, is_over, shortfall_by, new_events, connection_items}
use Rattle.capture_events.specs.LoggedEvents.{seen_waiting}
use Rattle.capture_events.specs.TrackedConnection.{IsTracked}

-- The state after these segments.
abbrev pub StateIs : ℕ → ℕ → List Seen → ConnectionState → Type 0
StateIs most number seen (state.Opening waiting) = (map seen_waiting waiting.items ≡ seen) × (answered_by number seen ≡ None) × (length seen ≤ 4096)
StateIs most number seen (state.Tracked o) = (other : ℕ) × (answered_by number seen ≡ Some other) × IsTracked most (bases number other) seen o
StateIs most number seen state.Over = is_over (connection_items most number seen) ≡ true

-- One segment more, unless the connection is over.
abbrev pub seen_with : ℕ → ℕ → List Seen → Seen → List Seen
seen_with most number seen s = if is_over (connection_items most number seen) then seen else seen ++ s ∷ []

unfoldable pub TakesPacket : ℕ → Pair → ℕ → Seen → ConnectionState → ConnectionState → List Event → List Event → Type 0
TakesPacket most pair number s old next before after =
    (seen : List Seen) → AreNumbered 0 (seen ++ s ∷ []) → StateIs most number seen old
    → StateIs most number (seen_with most number seen s) next
    × (after ≡ before ++ new_events pair (connection_items most number seen) (connection_items most number (seen_with most number seen s)))

-- No segment follows.
unfoldable pub EndsConnection : ℕ → Pair → ℕ → Bool → Option Shortfall → ConnectionState → List Event → List Event → Type 0
EndsConnection most pair number replaced missing st before after =
    (seen : List Seen) → AreNumbered 0 seen → StateIs most number seen st
    → after ≡ before ++ new_events pair (connection_items most number seen) (ends (connection_items most number seen) (shortfall_by (answered_by number seen) number seen missing) replaced)

-- True if the connection has no further events, unless more of its packets follow.
abbrev pub is_idle : ℕ → ℕ → List Seen → Bool
is_idle most number seen = is_over (connection_items most number seen) || (is_none (answered_by number seen) && is_none (first_shown seen))
