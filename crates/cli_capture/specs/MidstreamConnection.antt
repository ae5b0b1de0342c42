-- A session that was running before its capture: what happens on it is what the wire shows of a connection that came up just
-- before the places at which its directions begin, by three packets that weren't captured.
use Rattle.std.specs.Prelude.{◌≡◌, ◌⊎◌, ◌+◌, ◌-◌, ◌^◌, ◌&&◌, ◌++◌, ◌∷◌, min, ℕ, Bool, true, false, List, [], flat_map, length, map, drop, Option, Some, None, is_none}
use Rattle.capture_tcp.specs.declared.ending.Ending.{Ending}
use Rattle.capture_tcp.specs.declared.ending.Ending.TheVariants as ending
use Rattle.hsms_machine.specs.Settings.{Parameters}
use Rattle.capture_tcp.specs.declared.packet.Segment.{Segment}
use Rattle.capture_tcp.specs.declared.packet.Side.{Side}
use Rattle.capture_tcp.specs.declared.packet.Side.TheVariants as side
use Rattle.capture_tcp.specs.declared.events.TimedEvent.{TimedEvent}
use Rattle.capture_tcp.specs.TcpStreams.{End, Seen, places}
use Rattle.capture_tcp.specs.EndOfStream.{ended, is_known}
use Rattle.capture_tcp.specs.KnownStreams.{bases, seen_of}
use Rattle.capture_tcp.specs.Laws.{AreNumbered}
use Rattle.capture_tcp.specs.ReaderInvariant.{StateInvariant}
use Rattle.capture_tcp.specs.EventSteps.{entry_as}
use Rattle.capture_tcp.specs.Timestamps.{AreTimed, IsInTime, time_at}
use Rattle.capture_tcp.specs.ConnectionEvents.{emits}
use Rattle.capture_log.specs.declared.written_log.WrittenLog.{WrittenLog}
use Rattle.capture_log.specs.declared.socket_pair.Pair.{Pair}
use Rattle.capture_midstream.specs.SyntheticHandshake.{number_before, opening_by, segment_by}
use Rattle.capture_midstream.specs.SequenceNumbers.{before_by}
use Rattle.capture_midstream.specs.declared.sync_packet.Start.{Start}
use Rattle.cli_capture.specs.declared.progress.Progress.{Progress}
use Rattle.cli_capture.specs.declared.progress.Progress.TheVariants as progress
use Rattle.capture_errors.specs.declared.incomplete.Shortfall.{Shortfall}
use Rattle.capture_errors.specs.declared.incomplete.Shortfall.TheVariants as lacks
use Rattle.cli_capture.specs.declared.report.OutputMode.TheVariants.{Log}
use Rattle.cli_capture.specs.declared.report.Report.{Report}
use Rattle.cli_capture.specs.declared.midstream_connection.Within.{Within}
use Rattle.cli_capture.specs.OutputMode.{Way, to_log, to_verdicts}
use Rattle.cli_capture.specs.TrackedConnection.{AllFit, IsTooMuch, course_by_events}
use Rattle.cli_capture.specs.MidstreamItems.{Item, LogsItems}
use Rattle.cli_capture.specs.MidstreamLog.{JoinedStands, most_by, terms_by}
use Rattle.cli_capture.specs.ConnectionLog.{bare_if, is_replaced_by, lack_by}
use Rattle.cli_capture.specs.MidstreamOutput.{EndsSession, and_down, in_capture, uncaptured}
use Rattle.cli_capture.specs.Assumptions.{since, sure_log, whole_log}

-- the number at which the direction of an end begins
abbrev pub begin_at : ℕ → ℕ → Side → ℕ
begin_at active passive side.Active = active
begin_at active passive side.Passive = passive

-- a packet's number behind those that weren't captured
abbrev pub counted : ℕ → ℕ
counted packet = min (packet + uncaptured) (2 ^ 64 - 1)

-- what stands of a packet from the beginning of its direction on
abbrev pub cut_by : ℕ → Segment → List ℕ → Seen
cut_by begin segment octets =
    (let kept = segment_by begin segment (length octets) in
    seen_of (record kept { packet = counted segment.packet }) (drop (before_by begin segment.number (length octets)) octets))

-- a packet of the session, with the octets that it brings
pub record Brought : Type 0 where
  pub segment : Segment
  pub octets : List ℕ

-- as it was captured
abbrev pub seen_brought : Brought → Seen
seen_brought g = seen_of g.segment g.octets

abbrev pub cut : ℕ → ℕ → Brought → Seen
cut active passive g = cut_by (begin_at active passive g.segment.from) g.segment g.octets

-- the packets by which the connection came up
abbrev pub opening_seen : ℕ → ℕ → List Seen
opening_seen active passive =
    seen_of (opening_by active passive).syn [] ∷ seen_of (opening_by active passive).answer [] ∷ seen_of (opening_by active passive).acknowledgement [] ∷ []

abbrev pub session_base : ℕ → ℕ → End → ℕ
session_base active passive = bases (number_before active) (number_before passive)

abbrev pub session_seen : ℕ → ℕ → List Brought → List Seen
session_seen active passive gs = opening_seen active passive ++ map (cut active passive) gs

-- the packets that reset it and acknowledge nothing
abbrev pub resets_of : List Brought → List ℕ
resets_of gs = flat_map (λ g. bare_if (g.segment.reset && is_none g.segment.acknowledged) g.segment.packet) gs

-- what counts of what happens, at the packets of the capture
abbrev pub counting : Start → List ℕ → List TimedEvent → List TimedEvent
counting start bare hs = since start (map (in_capture bare) hs)

-- how what is told ends, at a packet of the capture
abbrev pub ending_in : Ending → Ending
ending_in ending.Closed = ending.Closed
ending_in ending.Complete = ending.Complete
ending_in (ending.Lost packet) = ending.Lost (packet - uncaptured)
ending_in (ending.Differs packet) = ending.Differs (packet - uncaptured)

-- ---- what happens on it

-- what the wire shows of these packets, each at the time of its packet
pub record Happens (active passive : ℕ) (gs : List Brought) (hs : List TimedEvent) : Type 0 where
  pub tells_are : map entry_as hs ≡ emits (places (session_base active passive) [] (session_seen active passive gs))
  pub timed : AreTimed (time_at (places (session_base active passive) [] (session_seen active passive gs))) hs

abbrev pub course_within : ℕ → Start → List Brought → List TimedEvent → Progress
course_within most start gs hs = course_by_events most (counting start (resets_of gs) hs)

-- what it lacks, where something may be missing behind these packets
abbrev pub lack_within : ℕ → Start → ℕ → ℕ → List Brought → List TimedEvent → Option Shortfall → Option Shortfall
lack_within most start active passive gs hs missing =
    lack_by (course_within most start gs hs) (ending_in (ended (places (session_base active passive) [] (session_seen active passive gs)))) missing

-- the log of one that may be replaced
abbrev pub and_down_if : Bool → List Item → List Item
and_down_if true xs = and_down xs
and_down_if false xs = xs

-- what is told of a session of which these are all packets, where some items of its log were logged before
abbrev pub TellsWithin : Way → Parameters → Parameters → Pair → Start → ℕ → ℕ → List Brought → List TimedEvent → List Item → Bool → Option Shortfall → Report → Report → Type 0
TellsWithin how a p pair start active passive gs hs had replaced missing old new =
    (let most = most_by how a in
    let lack = lack_within most start active passive gs hs missing in
    EndsSession how a p pair
    (and_down_if (is_replaced_by replaced (course_within most start gs hs) lack) (whole_log (terms_by how a start) (counting start (resets_of gs) hs))) had lack old new)

-- all is told of it, whichever packets follow and whatever happens then, whether a later connection replaces it, and whatever
-- may be missing
abbrev pub TellsForGood : Way → Parameters → Parameters → Pair → Start → ℕ → ℕ → List Brought → List TimedEvent → List Item → Report → Report → Type 0
TellsForGood how a p pair start active passive gs hs had old new =
    (later : List Brought) (more : List TimedEvent) (replaced : Bool) (missing : Option Shortfall) → AreNumbered 0 (session_seen active passive (gs ++ later))
    → Happens active passive (gs ++ later) (hs ++ more)
    → TellsWithin how a p pair start active passive (gs ++ later) (hs ++ more) had replaced missing old new

-- ---- in the midst of it

-- behind these packets, on which this has happened
pub record IsWithin (how : Way) (a p : Parameters) (start : Start) (gs : List Brought) (hs : List TimedEvent) (w : Within) : Type 0 where
  pub unended : w.connection.ending ≡ None
  pub consistent : StateInvariant w.connection hs (session_base w.active w.passive) (session_seen w.active w.passive gs)
  pub timed : IsInTime w.connection hs (session_base w.active w.passive) (session_seen w.active w.passive gs)
  pub bare : w.bare_resets.items ≡ resets_of gs
  pub reception : JoinedStands how a p start (counting start (resets_of gs) hs) w.joined
  pub fit : AllFit (session_base w.active w.passive) (opening_seen w.active w.passive) (map (cut w.active w.passive) gs)

-- its log has more: on the page, where the log of an end is told
abbrev pub LogsFurther : Way → Pair → List Item → List Item → Report → Report → Type 0
LogsFurther to_verdicts pair had has old new = new ≡ old
LogsFurther (to_log settings side) pair had has old new =
    (more : List Item) × (has ≡ had ++ more) × ((j : WrittenLog) → old.manner ≡ Log j → LogsItems pair progress.Proceeds more j old new)

-- more may be told of it, and it isn't known how that ends
abbrev pub MayHappenMore : ℕ → Start → ℕ → ℕ → List Brought → List TimedEvent → Type 0
MayHappenMore most start active passive gs hs =
    (course_within most start gs hs ≡ progress.Proceeds) × (is_known (places (session_base active passive) [] (session_seen active passive gs)) ≡ false)

-- so it is followed, as long as too much waits with none of its packets
abbrev pub MayRunMore : ℕ → Start → ℕ → ℕ → List Brought → List TimedEvent → Type 0
MayRunMore most start active passive gs hs =
    MayHappenMore most start active passive gs hs × AllFit (session_base active passive) (opening_seen active passive) (map (cut active passive) gs)

-- it is given up with a packet, with which too much would wait: what is told is that of the packets before it
pub record GivesUpWithin (how : Way) (a p : Parameters) (pair : Pair) (start : Start) (active passive : ℕ) (gs : List Brought) (hs : List TimedEvent) (g : Brought) (had : List Item) (old new : Report) : Type 0 where
  pub happens : Happens active passive gs hs
  pub more : MayRunMore (most_by how a) start active passive gs hs
  pub full : IsTooMuch (session_base active passive) (session_seen active passive gs) (cut active passive g)
  pub ends : EndsSession how a p pair (whole_log (terms_by how a start) (counting start (resets_of gs) hs)) had (Some (lacks.Full g.segment.packet)) old new

-- what was logged of it so far
abbrev pub logged_so_far : Way → Parameters → Start → List Brought → List TimedEvent → List Item
logged_so_far how a start gs hs = sure_log (terms_by how a start) (counting start (resets_of gs) hs)

-- it is over with a packet, behind others on which this had happened
abbrev pub IsOverWith : Way → Parameters → Parameters → Pair → Start → ℕ → ℕ → List Brought → List TimedEvent → Brought → List Item → Report → Report → Type 0
IsOverWith how a p pair start active passive gs hs g had old new =
    ((emitted : List TimedEvent) × Happens active passive (gs ++ g ∷ []) (hs ++ emitted)
    × TellsForGood how a p pair start active passive (gs ++ g ∷ []) (hs ++ emitted) had old new)
    ⊎ GivesUpWithin how a p pair start active passive gs hs g had old new
