-- A connection with the sequence numbers of both SYNs, after some of its segments.
use Rattle.std.specs.Prelude.{◌≡◌, ℕ, List, [], None}
use Rattle.capture_tcp.specs.declared.events.TimedEvent.{TimedEvent}
use Rattle.capture_tcp.specs.ReaderInvariant.{StateInvariant}
use Rattle.capture_tcp.specs.Timestamps.{IsInTime}
use Rattle.capture_tcp.specs.TcpStreams.{End, Seen}
use Rattle.capture_events.specs.declared.tracked_connection.TrackedConnection.{TrackedConnection}
use Rattle.capture_events.specs.ConnectionItems.{bare_resets, emitted_items, follow, is_there}
use Rattle.capture_events.specs.LoggedEvents.{logged_by}

-- The connection has processed these segments, and is not over.
pub record IsTracked (most : ℕ) (base : End → ℕ) (seen : List Seen) (o : TrackedConnection) : Type 0 where
  pub emitted : List TimedEvent
  pub unended : o.connection.ending ≡ None
  pub consistent : StateInvariant o.connection emitted base seen
  pub timed : IsInTime o.connection emitted base seen
  pub bare : o.bare_resets.items ≡ bare_resets seen
  pub proceeds : (logged_by most [] emitted).over ≡ None
  pub up : o.is_up ≡ is_there (follow most base [] seen).items
  pub runs : follow most base [] seen ≡ emitted_items most base seen
