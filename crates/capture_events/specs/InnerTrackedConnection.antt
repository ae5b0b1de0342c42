-- What only contracts of private functions use, besides the definitions of `TrackedConnection`.
use Rattle.std.specs.Prelude.{◌≡◌, ℕ, Bool, true, List, [], ◌∷◌, ◌++◌, map, Option, Some, None, Vec}
use Rattle.std.specs.declared.alloc.Global.{Global}
use Rattle.capture_log.specs.declared.socket_pair.Pair.{Pair}
use Rattle.capture_tcp.specs.declared.connection.Connection.{Connection}
use Rattle.capture_tcp.specs.declared.ending.Ending.{Ending}
use Rattle.capture_tcp.specs.declared.events.TimedEvent.{TimedEvent}
use Rattle.capture_tcp.specs.Laws.{AreNumbered}
use Rattle.capture_tcp.specs.ReaderInvariant.{StateInvariant, TakesOn}
use Rattle.capture_tcp.specs.Limits.{ContinuesBy}
use Rattle.capture_tcp.specs.Timestamps.{TakesInTime}
use Rattle.capture_tcp.specs.TcpStreams.{End, Seen, places}
use Rattle.capture_tcp.specs.EndOfStream.{ended}
use Rattle.capture_events.specs.declared.event.Event.{Event}
use Rattle.capture_events.specs.declared.event.Event.TheVariants.{Logged}
use Rattle.capture_events.specs.declared.log_item.LogItem.{LogItem}
use Rattle.capture_events.specs.declared.incomplete.Shortfall.{Shortfall}
use Rattle.capture_events.specs.declared.incomplete.Shortfall.TheVariants.{Full}
use Rattle.capture_events.specs.declared.tracked_connection.Followed.{Followed}
use Rattle.capture_events.specs.declared.tracked_connection.Followed.TheVariants as followed
use Rattle.capture_events.specs.declared.tracked_connection.TrackedConnection.{TrackedConnection}
use Rattle.capture_events.specs.ConnectionItems.{ConnectionItems, end_event, ends, follow, is_over, is_there, is_too_much, new_events, shortfall_of}
use Rattle.capture_events.specs.TrackedConnection.{IsTracked}

-- The connection after these segments, or `None` if it is over.
abbrev pub TrackedAs : ℕ → (End → ℕ) → List Seen → Option TrackedConnection → Type 0
TrackedAs most base seen None = is_over (follow most base [] seen) ≡ true
TrackedAs most base seen (Some o) = IsTracked most base seen o

-- The events between two lists of items of a connection that was not over.
pub record Grows (pair : Pair) (before after : ConnectionItems) (old new : List Event) : Type 0 where
  pub more : List LogItem
  pub items : after.items ≡ before.items ++ more
  pub appended : new ≡ old ++ (map (Logged pair) more ++ end_event pair (is_there after.items) after.over)

-- One segment more.
unfoldable pub TakesTracked : ℕ → Pair → Seen → TrackedConnection → Option TrackedConnection → List Event → List Event → Type 0
TakesTracked most pair s o left old new =
    (base : End → ℕ) (seen : List Seen) → AreNumbered 0 (seen ++ s ∷ []) → IsTracked most base seen o
    → TrackedAs most base (seen ++ s ∷ []) left × Grows pair (follow most base [] seen) (follow most base [] (seen ++ s ∷ [])) old new

unfoldable pub TakesAll : ℕ → Pair → List Seen → TrackedConnection → Option TrackedConnection → List Event → List Event → Type 0
TakesAll most pair ss o left old new =
    (base : End → ℕ) (seen : List Seen) → AreNumbered 0 (seen ++ ss) → IsTracked most base seen o
    → TrackedAs most base (seen ++ ss) left × Grows pair (follow most base [] seen) (follow most base [] (seen ++ ss)) old new

-- The result of one segment for the TCP connection.
abbrev pub FollowsSegment : Connection → Seen → List TimedEvent → List TimedEvent → Followed → Type 0
FollowsSegment c s before after (followed.Proceeds next) = (next.ending ≡ None) × TakesOn c s before next after × TakesInTime c s before next after × ContinuesBy c before s
FollowsSegment c s before after (followed.Ends shortfall) =
    (next : Connection) × (e : Ending) × (next.ending ≡ Some e) × (shortfall ≡ shortfall_of e None) × TakesOn c s before next after × TakesInTime c s before next after
    × ContinuesBy c before s
FollowsSegment c s before after followed.Full =
    (after ≡ before)
    × ((base : End → ℕ) (seen : List Seen) (away : List TimedEvent) → StateInvariant c (away ++ before) base seen → is_too_much base seen s ≡ true)

-- What ends the connection, if its items or the segment do.
abbrev pub over_by : ℕ → Option (Option Shortfall) → Followed → Option (Option Shortfall)
over_by packet (Some shortfall) f = Some shortfall
over_by packet None (followed.Proceeds c) = None
over_by packet None (followed.Ends shortfall) = Some shortfall
over_by packet None followed.Full = Some (Some (Full packet))

abbrev pub left_by : Bool → Vec ℕ Global → Option (Option Shortfall) → Followed → Option TrackedConnection
left_by is_up bare (Some shortfall) f = None
left_by is_up bare None (followed.Proceeds c) = Some (record { connection = c; bare_resets = bare; is_up = is_up })
left_by is_up bare None (followed.Ends shortfall) = None
left_by is_up bare None followed.Full = None

-- No segment follows.
unfoldable pub EndsTracked : ℕ → Pair → Bool → Option Shortfall → TrackedConnection → List Event → List Event → Type 0
EndsTracked most pair replaced missing o old new =
    (base : End → ℕ) (seen : List Seen) → AreNumbered 0 seen → IsTracked most base seen o
    → new ≡ old ++ new_events pair (follow most base [] seen) (ends (follow most base [] seen) (shortfall_of (ended (places base [] seen)) missing) replaced)
