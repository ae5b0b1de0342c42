-- What only contracts of private functions use, besides the definitions of `MidstreamConnection`.
use Rattle.std.specs.Prelude.{◌≡◌, ◌⊎◌, ◌++◌, ◌∷◌, ℕ, Bool, List, [], Option, Some, None}
use Rattle.capture_tcp.specs.declared.connection.Connection.{Connection}
use Rattle.capture_tcp.specs.declared.ending.Ending.{Ending}
use Rattle.hsms_machine.specs.Settings.{Parameters}
use Rattle.capture_tcp.specs.declared.packet.Segment.{Segment}
use Rattle.capture_tcp.specs.declared.events.TimedEvent.{TimedEvent}
use Rattle.capture_tcp.specs.TcpStreams.{End, Seen}
use Rattle.capture_tcp.specs.KnownStreams.{seen_of}
use Rattle.capture_tcp.specs.Laws.{AreNumbered}
use Rattle.capture_tcp.specs.ReaderInvariant.{StateInvariant, TakesOn}
use Rattle.capture_tcp.specs.Limits.{ContinuesBy}
use Rattle.capture_tcp.specs.Timestamps.{TakesInTime}
use Rattle.capture_log.specs.declared.socket_pair.Pair.{Pair}
use Rattle.capture_midstream.specs.declared.sync_packet.Start.{Start}
use Rattle.cli_capture.specs.declared.progress.Progress.{Progress}
use Rattle.cli_capture.specs.declared.progress.Progress.TheVariants as progress
use Rattle.capture_errors.specs.declared.incomplete.Shortfall.{Shortfall}
use Rattle.capture_errors.specs.declared.incomplete.Shortfall.TheVariants as lacks
use Rattle.cli_capture.specs.declared.report.Report.{Report}
use Rattle.cli_capture.specs.declared.progress.Followed.{Followed}
use Rattle.cli_capture.specs.declared.progress.Followed.TheVariants as followed
use Rattle.cli_capture.specs.declared.midstream_connection.Within.{Within}
use Rattle.cli_capture.specs.Progress.{lack_behind}
use Rattle.cli_capture.specs.OutputMode.{Way}
use Rattle.cli_capture.specs.InnerOutputMode.{IsReport}
use Rattle.cli_capture.specs.TrackedConnection.{IsTooMuch}
use Rattle.cli_capture.specs.MidstreamConnection.{Brought, session_seen, counting, ending_in, Happens, TellsWithin, IsWithin, LogsFurther, logged_so_far, IsOverWith}

-- The connection takes that part of a packet: more may follow, or it is known how it ends, and what it lacks then, or too
-- much would wait with it.
abbrev pub TakesCut : Connection → Seen → ℕ → List TimedEvent → List TimedEvent → Followed → Type 0
TakesCut c s packet emitted later (followed.Proceeds next) = (next.ending ≡ None) × TakesOn c s emitted next later × TakesInTime c s emitted next later × ContinuesBy c emitted s
TakesCut c s packet emitted later (followed.BothLogs lack) =
    ((next : Connection) × (e : Ending) × (next.ending ≡ Some e) × (lack ≡ lack_behind (ending_in e) None)
    × TakesOn c s emitted next later × TakesInTime c s emitted next later)
    ⊎ ((lack ≡ Some (lacks.Full packet)) × (later ≡ emitted)
    × ((base : End → ℕ) (before : List Seen) (away : List TimedEvent) → StateInvariant c (away ++ emitted) base before → IsTooMuch base before s))

-- it is over by what was heard, or as the connection is
abbrev pub over_as : Progress → Followed → Followed
over_as progress.Proceeds f = f
over_as (progress.Over lack) f = followed.BothLogs lack

-- ---- in the midst of it

-- nothing has happened that counts
pub record BeginsWithin (active passive : ℕ) (start : Start) (w : Within) : Type 0 where
  pub active_is : w.active ≡ active
  pub passive_is : w.passive ≡ passive
  pub happened : List TimedEvent
  pub none : counting start [] happened ≡ []
  pub is : (how : Way) (a p : Parameters) → IsWithin how a p start [] happened w

-- the connection takes one of the packets by which it came up
abbrev pub Opens : Connection → Segment → Connection → Type 0
Opens c segment next = (emitted : List TimedEvent) × TakesOn c (seen_of segment []) [] next emitted × TakesInTime c (seen_of segment []) [] next emitted

-- with one packet more it is over, or this has happened too
abbrev pub GoesWithin : Way → Parameters → Parameters → Pair → Start → List Brought → List TimedEvent → Brought → Within → Option Within → Report → Report → Type 0
GoesWithin how a p pair start gs hs g w None old new =
    IsOverWith how a p pair start w.active w.passive gs hs g (logged_so_far how a start gs hs) old new
GoesWithin how a p pair start gs hs g w (Some next) old new =
    (next.active ≡ w.active) × (next.passive ≡ w.passive)
    × (emitted : List TimedEvent) × Happens w.active w.passive (gs ++ g ∷ []) (hs ++ emitted) × IsWithin how a p start (gs ++ g ∷ []) (hs ++ emitted) next
    × LogsFurther how pair (logged_so_far how a start gs hs) (logged_so_far how a start (gs ++ g ∷ []) (hs ++ emitted)) old new

unfoldable pub TakesWithin : Pair → Brought → Within → Option Within → Report → Report → Type 0
TakesWithin pair g w left old new =
    (how : Way) (a p : Parameters) (start : Start) (gs : List Brought) (hs : List TimedEvent) → IsReport how a p old
    → AreNumbered 0 (session_seen w.active w.passive (gs ++ g ∷ [])) → IsWithin how a p start gs hs w → GoesWithin how a p pair start gs hs g w left old new

-- no packet follows
unfoldable pub EndsWithin : Pair → Bool → Option Shortfall → Within → Report → Report → Type 0
EndsWithin pair replaced missing w old new =
    (how : Way) (a p : Parameters) (start : Start) (gs : List Brought) (hs : List TimedEvent) → IsReport how a p old
    → AreNumbered 0 (session_seen w.active w.passive gs) → IsWithin how a p start gs hs w
    → Happens w.active w.passive gs hs
    × TellsWithin how a p pair start w.active w.passive gs hs (logged_so_far how a start gs hs) replaced missing old new
