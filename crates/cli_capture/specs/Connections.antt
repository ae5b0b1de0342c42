-- The connections of a capture by their packets: which packets are those of each, and what is told of it.
use Rattle.std.specs.Prelude.{◌≡◌, ◌↔◌, ◌⊎◌, ◌≤◌, ◌<◌, ◌+◌, ◌-◌, ◌^◌, ◌++◌, ◌∷◌, min, ℕ, Bool, true, false, List, [], length, map, Option, Some, None, is_some}
use Rattle.std.specs.Map.{lookup, remove_entry, set_value}
use Rattle.std.specs.declared.net.ip_addr.IpAddr.{IpAddr}
use Rattle.hsms_machine.specs.Settings.{Parameters}
use Rattle.capture_pcap.specs.declared.segment.Segment.{Segment}
use Rattle.capture_tcp.specs.declared.packet.Segment.{Segment as Taken}
use Rattle.capture_tcp.specs.declared.packet.Side.{Side}
use Rattle.capture_tcp.specs.declared.events.TimedEvent.{TimedEvent}
use Rattle.capture_tcp.specs.KnownStreams.{bases}
use Rattle.capture_tcp.specs.TcpStreams.{Seen}
use Rattle.capture_midstream.specs.declared.buffered_packet.BufferedPacket.{BufferedPacket}
use Rattle.capture_midstream.specs.declared.packet_buffer.Beginnings.{Beginnings}
use Rattle.capture_midstream.specs.declared.sync_packet.Start.{Start}
use Rattle.capture_midstream.specs.PacketBuffer.{AreBeginnings, AreSilent, AreSure, AreUnsure, BuffersPackets, IsDue}
use Rattle.capture_midstream.specs.SyntheticHandshake.{IsStart}
use Rattle.capture_log.specs.SocketPair.{IsOfPeer, has_syn, turned}
use Rattle.capture_log.specs.declared.written_log.WrittenLog.{WrittenLog}
use Rattle.capture_log.specs.declared.socket_pair.Pair.{Pair}
use Rattle.capture_log.specs.contracts.socket_pair.PairPartialEq.TheImpl as same_pair
use Rattle.cli_capture.specs.declared.report.OutputMode.{OutputMode}
use Rattle.cli_capture.specs.declared.report.OutputMode.TheVariants.{Log, Verdicts}
use Rattle.cli_capture.specs.declared.report.Report.{Report}
use Rattle.capture_errors.specs.declared.incomplete.Shortfall.{Shortfall}
use Rattle.capture_errors.specs.declared.incomplete.Shortfall.TheVariants.{Time}
use Rattle.cli_capture.specs.Segments.{IsPairAt, has_rst, syn_by, taken_segment}
use Rattle.cli_capture.specs.TrackedConnection.{MayTellMore}
use Rattle.cli_capture.specs.MidstreamLog.{most_by}
use Rattle.cli_capture.specs.MidstreamSync.{EndsFrom, IsLast, IsOverFrom, brought}
use Rattle.cli_capture.specs.LogOutput.{EndsOnPageBy, LogsTo, OverOnPage, TellsWith}
use Rattle.cli_capture.specs.ConnectionState.{EndsBy, OverBy, answered_by, first_shown}
use Rattle.cli_capture.specs.Report.{session_of}
use Rattle.cli_capture.specs.MidstreamConnection.{Brought, Happens, IsOverWith, LogsFurther, MayRunMore, TellsWithin, logged_so_far, seen_brought}
use Rattle.cli_capture.specs.ConnectionTable.{HasTime, KeepsOf}
use Rattle.cli_capture.specs.OutputMode.{Way, to_log, to_verdicts}

-- a session that was running before the capture, once both of its directions have begun: where and with which packet they
-- did, its packets, and what has happened on it
pub record Session : Type 0 where
  pub active : ℕ
  pub passive : ℕ
  pub start : Start
  pub packets : List Brought
  pub happened : List TimedEvent

-- The packets of a connection so far: of one that begins with a SYN of a number; those of a session that was running before,
-- which are kept; or those of such a session once both of its directions have begun.
pub data Packets : Type 0 where
  of_syn : ℕ → List Seen → Packets
  buffered : List BufferedPacket → Packets
  of_session : Session → Packets

-- A connection: the number of its SYN, unless it was running before the capture, how many had begun before it, and its packets
-- so far, unless it was told.
pub record Connection : Type 0 where
  pub syn : Option ℕ
  pub born : ℕ
  pub packets : Option Packets

-- of each two ends the last one, whichever of them connected, in the order in which they began, how many have begun, and
-- whether sessions are looked at that were running before
pub record Connections : Type 0 where
  pub known : List (Pair × Connection)
  pub begun : ℕ
  pub joined : Bool

-- ---- which are remembered

-- nothing is left to be told of it: it was told, or it waits for the SYN of the passive end, and no packet shows that there
-- was one, or none of those that are kept brings an octet
abbrev pub NothingIsLeft : Option Packets → Type 0
NothingIsLeft None = Unit {0}
NothingIsLeft (Some (of_syn number seen)) = (answered_by number seen ≡ None) × (is_some (first_shown seen) ≡ false)
NothingIsLeft (Some (buffered gs)) = AreSilent gs
NothingIsLeft (Some (of_session s)) = ⊥

-- it is forgotten where 4,096 or more have begun after it, and nothing is left to be told of it
abbrev pub IsGone : Connection → ℕ → Type 0
IsGone one begun = NothingIsLeft one.packets × (one.born + 4096 < begun)

abbrev pub connection_of : Connections → Pair → Option Connection
connection_of all pair = lookup ((same_pair.ghosts).eq pair) all.known

abbrev pub Has : Connections → Pair → (Connection → Type 0) → Type 0
Has all pair IsSo = (one : Connection) × (connection_of all pair ≡ Some one) × (IsGone one all.begun → ⊥) × IsSo one

abbrev pub HasOne : Connections → Pair → Type 0
HasOne all pair = Has all pair (λ one. Unit {0})

-- ---- one begins

-- with a segment that tells the number of its SYN, where the pair's isn't the one with this number; or with one that is neither
-- a SYN nor a reset, where the pair has none, and sessions are looked at that were running before
abbrev pub Starts : Connections → Pair → Side → Segment → Option ℕ → Type 0
Starts all pair from segment (Some number) = (syn_by from segment ≡ Some number) × (Has all pair (λ one. one.syn ≡ Some number) → ⊥)
Starts all pair from segment None =
    (all.joined ≡ true) × (has_syn segment ≡ false) × (has_rst segment ≡ false) × (HasOne all pair → ⊥)

abbrev pub no_packets : Option ℕ → Packets
no_packets (Some number) = of_syn number []
no_packets None = buffered []

abbrev pub starting : Option ℕ → ℕ → Connection
starting syn born = record { syn = syn; born = born; packets = Some (no_packets syn) }

-- no packet of it follows: what is left of it is told
abbrev pub EndsAs : OutputMode → Parameters → Parameters → Pair → Bool → Option Shortfall → ℕ → List Seen → Report → Report → Type 0
EndsAs Verdicts a p pair replaced missing number seen old new = EndsBy (answered_by number seen) a p pair number seen replaced missing old new
EndsAs (Log j) a p pair replaced missing number seen old new = EndsOnPageBy (answered_by number seen) j number seen replaced missing old new

-- where it was running before: all that its packets show
abbrev pub way_as : OutputMode → Way
way_as Verdicts = to_verdicts
way_as (Log j) = to_log j.settings j.side

abbrev pub EndsKept : Way → Parameters → Parameters → Pair → Bool → Option Shortfall → List BufferedPacket → Report → Report → Type 0
EndsKept how a p pair replaced missing gs old new =
    (both : Beginnings) × AreBeginnings (session_of a) gs both
    × EndsFrom how a p pair replaced missing both.active.number both.passive.number gs old new

abbrev pub EndsRunning : Way → Parameters → Parameters → Pair → Bool → Option Shortfall → Session → Report → Report → Type 0
EndsRunning how a p pair replaced missing s old new =
    TellsWithin how a p pair s.start s.active s.passive s.packets s.happened (logged_so_far how a s.start s.packets s.happened) replaced missing old new

abbrev pub EndsWith : Parameters → Parameters → Pair → Bool → Option Shortfall → Option Packets → Report → Report → Type 0
EndsWith a p pair replaced missing None old new = new ≡ old
EndsWith a p pair replaced missing (Some (of_syn number seen)) old new = EndsAs old.manner a p pair replaced missing number seen old new
EndsWith a p pair replaced missing (Some (buffered gs)) old new = EndsKept (way_as old.manner) a p pair replaced missing gs old new
EndsWith a p pair replaced missing (Some (of_session s)) old new = EndsRunning (way_as old.manner) a p pair replaced missing s old new

-- since another one replaces it
abbrev pub IsReplaced : Parameters → Parameters → Pair → Option Connection → Report → Report → Type 0
IsReplaced a p pair None old new = new ≡ old
IsReplaced a p pair (Some one) old new = EndsWith a p pair true None one.packets old new

abbrev pub without : Pair → Connections → Connections
without pair all = record all { known = remove_entry ((same_pair.ghosts).eq pair) all.known }

-- of its two ends it is the connection, whichever of them connected before
pub record StartsOne (a p : Parameters) (pair : Pair) (syn : Option ℕ) (old new : Connections) (before after : Report) : Type 0 where
  pub mid : Report
  pub of_other : IsReplaced a p (turned pair) (connection_of old (turned pair)) before mid
  pub of_pair : IsReplaced a p pair (connection_of (without (turned pair) old) pair) mid after
  pub counted : new.begun ≡ min (old.begun + 1) (2 ^ 64 - 1)
  pub joined : new.joined ≡ old.joined
  pub known : KeepsOf IsGone new.begun ((without pair (without (turned pair) old)).known ++ (pair, starting syn old.begun) ∷ []) new.known

-- ---- one packet more

-- All is not known of it: no more than 4,096 packets wait for the SYN of the passive end, or something may follow them that
-- is told, or that changes how it ends.
abbrev pub IsOpenStill : Option ℕ → Parameters → ℕ → List Seen → Type 0
IsOpenStill None a number all = length all ≤ 4096
IsOpenStill (Some other) a number all = MayTellMore a (bases number other) all

-- It is one of its packets, as long as all is not known of it; or the one with which it is told for good.
abbrev pub GoesToVerdicts : Parameters → Parameters → Pair → ℕ → List Seen → Seen → Option (List Seen) → Report → Report → Type 0
GoesToVerdicts a p pair number seen s (Some all) old new =
    (all ≡ seen ++ s ∷ []) × (new ≡ old) × IsOpenStill (answered_by number all) a number all
GoesToVerdicts a p pair number seen s None old new = OverBy (answered_by number (seen ++ s ∷ [])) a p pair number (seen ++ s ∷ []) old new

-- where the log of an end is told, its page gets what is told with the packet
abbrev pub GoesToLog : WrittenLog → Pair → ℕ → List Seen → Seen → Option (List Seen) → Report → Report → Type 0
GoesToLog j pair number seen s (Some all) old new =
    (all ≡ seen ++ s ∷ []) × LogsTo (TellsWith (answered_by number seen) (answered_by number all) j.settings j.side pair number seen s) j old new
    × IsOpenStill (answered_by number all) j.settings number all
GoesToLog j pair number seen s None old new = OverOnPage (answered_by number seen) (answered_by number (seen ++ s ∷ [])) j pair number seen s old new

abbrev pub GoesAs : OutputMode → Parameters → Parameters → Pair → ℕ → List Seen → Seen → Option (List Seen) → Report → Report → Type 0
GoesAs Verdicts a p pair number seen s next old new = GoesToVerdicts a p pair number seen s next old new
GoesAs (Log j) a p pair number seen s next old new = GoesToLog j pair number seen s next old new

abbrev pub GoesOfSyn : Parameters → Parameters → Pair → ℕ → List Seen → Seen → Option Packets → Report → Report → Type 0
GoesOfSyn a p pair number seen s None old new = GoesAs old.manner a p pair number seen s None old new
GoesOfSyn a p pair number seen s (Some (of_syn same all)) old new = (same ≡ number) × GoesAs old.manner a p pair number seen s (Some all) old new
GoesOfSyn a p pair number seen s (Some (buffered gs)) old new = ⊥
GoesOfSyn a p pair number seen s (Some (of_session r)) old new = ⊥

-- it is kept with those before it, until with one of them both directions surely begin, or no more are kept
pub record BeginsBoth (a : Parameters) (segment : Taken) (gs : List BufferedPacket) (both : Beginnings) : Type 0 where
  pub last : Bool
  pub is_last : (last ≡ true) ↔ IsLast segment gs
  pub due : last ≡ false → IsDue gs
  pub begin : AreBeginnings (session_of a) gs both
  pub sure : last ≡ false → AreSure both

pub record BeginsSession (how : Way) (a p : Parameters) (pair : Pair) (gs : List BufferedPacket) (both : Beginnings) (s : Session) (old new : Report) : Type 0 where
  pub active_is : s.active ≡ both.active.number
  pub passive_is : s.passive ≡ both.passive.number
  pub starts : IsStart both.active.number both.passive.number gs s.start
  pub packets_are : s.packets ≡ map brought gs
  pub happens : Happens s.active s.passive s.packets s.happened
  pub more : MayRunMore (most_by how a) s.start s.active s.passive s.packets s.happened
  pub logs : LogsFurther how pair [] (logged_so_far how a s.start s.packets s.happened) old new

abbrev pub GoesKept : Way → Parameters → Parameters → Pair → Taken → List BufferedPacket → Option Packets → Report → Report → Type 0
GoesKept how a p pair segment gs None old new =
    (both : Beginnings) × BeginsBoth a segment gs both × IsOverFrom how a p pair both.active.number both.passive.number gs old new
GoesKept how a p pair segment gs (Some (of_syn number seen)) old new = ⊥
GoesKept how a p pair segment gs (Some (buffered all)) old new =
    (all ≡ gs) × (new ≡ old) × (IsLast segment gs → ⊥) × ((IsDue gs → ⊥) ⊎ AreUnsure (session_of a) gs)
GoesKept how a p pair segment gs (Some (of_session s)) old new =
    (both : Beginnings) × BeginsBoth a segment gs both × BeginsSession how a p pair gs both s old new

-- and then it is one of its packets, on which something may happen
pub record ExtendsSession (how : Way) (a p : Parameters) (pair : Pair) (s : Session) (g : Brought) (next : Session) (old new : Report) : Type 0 where
  pub emitted : List TimedEvent
  pub is : next ≡ record s { packets = s.packets ++ g ∷ []; happened = s.happened ++ emitted }
  pub happens : Happens next.active next.passive next.packets next.happened
  pub more : MayRunMore (most_by how a) next.start next.active next.passive next.packets next.happened
  pub logs : LogsFurther how pair (logged_so_far how a s.start s.packets s.happened) (logged_so_far how a next.start next.packets next.happened) old new

abbrev pub GoesRunning : Way → Parameters → Parameters → Pair → Session → Brought → Option Packets → Report → Report → Type 0
GoesRunning how a p pair s g None old new =
    IsOverWith how a p pair s.start s.active s.passive s.packets s.happened g (logged_so_far how a s.start s.packets s.happened) old new
GoesRunning how a p pair s g (Some (of_syn number seen)) old new = ⊥
GoesRunning how a p pair s g (Some (buffered gs)) old new = ⊥
GoesRunning how a p pair s g (Some (of_session next)) old new = ExtendsSession how a p pair s g next old new

abbrev pub Proceeds : Parameters → Parameters → Pair → Brought → Option Packets → Option Packets → Report → Report → Type 0
Proceeds a p pair g None next old new = (next ≡ None) × (new ≡ old)
Proceeds a p pair g (Some (of_syn number seen)) next old new = GoesOfSyn a p pair number seen (seen_brought g) next old new
Proceeds a p pair g (Some (buffered gs)) next old new =
    (all : List BufferedPacket) × BuffersPackets g.segment g.octets gs all × GoesKept (way_as old.manner) a p pair g.segment all next old new
Proceeds a p pair g (Some (of_session s)) next old new = GoesRunning (way_as old.manner) a p pair s g next old new

abbrev pub ContinuesBy : Option Connection → Parameters → Parameters → Pair → Brought → Connections → Connections → Report → Report → Type 0
ContinuesBy None a p pair g old new before after = (new ≡ old) × (after ≡ before)
ContinuesBy (Some one) a p pair g old new before after =
    (packets : Option Packets)
    × (new ≡ record old { known = set_value ((same_pair.ghosts).eq pair) old.known (record one { packets = packets }) })
    × Proceeds a p pair g one.packets packets before after

abbrev pub ContinuesWith : Parameters → Parameters → Pair → Brought → Connections → Connections → Report → Report → Type 0
ContinuesWith a p pair g old new before after = ContinuesBy (connection_of old pair) a p pair g old new before after

-- ---- a packet of the capture

-- its number, when it was captured, if the file says so, and the octets of its segment
pub record Captured : Type 0 where
  pub packet : ℕ
  pub time : Option ℕ
  pub octets : List ℕ

-- what its connection takes, in milliseconds since 1970
abbrev pub brought_at : Side → Segment → Captured → ℕ → Brought
brought_at from segment captured time = record { segment = taken_segment from captured.packet time segment; octets = captured.octets }

abbrev pub StartsAny : Connections → Pair → Side → Segment → Type 0
StartsAny all pair from segment = (syn : Option ℕ) × Starts all pair from segment syn

abbrev pub IsOpen : Connections → Pair → Type 0
IsOpen all pair = Has all pair (λ one. is_some one.packets ≡ true)

-- it begins a connection and is its first packet, or it is the next one of one that is open
abbrev pub Deals : Parameters → Parameters → Pair → Side → Segment → Brought → Connections → Connections → Report → Report → Type 0
Deals a p pair from segment g old new before after =
    ((syn : Option ℕ) × (begun : Connections) × (ended : Report) × Starts old pair from segment syn
    × StartsOne a p pair syn old begun before ended × ContinuesWith a p pair g begun new ended after)
    ⊎ ((StartsAny old pair from segment → ⊥) × IsOpen old pair × ContinuesWith a p pair g old new before after)

-- It is dealt so where it has a time. Where it would be, and has none, that is missing. Else it is passed over.
abbrev pub DealsOf : Parameters → Parameters → Pair → Side → Segment → Captured → Option Shortfall → Connections → Connections → Report → Report → Type 0
DealsOf a p pair from segment captured missing old new before after =
    ((missing ≡ None) × (time : ℕ) × HasTime captured.time time
    × Deals a p pair from segment (brought_at from segment captured time) old new before after)
    ⊎ ((missing ≡ Some (Time captured.packet)) × (new ≡ old) × (after ≡ before) × ((time : ℕ) → HasTime captured.time time → ⊥)
    × (StartsAny old pair from segment ⊎ IsOpen old pair))
    ⊎ ((missing ≡ None) × (new ≡ old) × (after ≡ before) × (StartsAny old pair from segment → ⊥) × (IsOpen old pair → ⊥))

abbrev pub DealsBy : Option IpAddr → Option (Pair × Side) → Parameters → Parameters → Segment → Captured → Option Shortfall → Connections → Connections → Report → Report → Type 0
DealsBy peer None a p segment captured missing old new before after = (missing ≡ None) × (new ≡ old) × (after ≡ before)
DealsBy peer (Some found) a p segment captured missing old new before after =
    (IsOfPeer peer found.0 × DealsOf a p found.0 found.1 segment captured missing old new before after)
    ⊎ ((IsOfPeer peer found.0 → ⊥) × (missing ≡ None) × (new ≡ old) × (after ≡ before))

-- a packet, where the passive ends have this port, and one end has this address, where one is asked for: of which pair it is,
-- and which end sent it, say its ports, and where both are the port, which pair has a connection
abbrev pub DealsPacket : ℕ → Option IpAddr → Parameters → Parameters → Segment → Captured → Option Shortfall → Connections → Connections → Report → Report → Type 0
DealsPacket port peer a p segment captured missing old new before after =
    (found : Option (Pair × Side)) × IsPairAt (HasOne old) port segment found × DealsBy peer found a p segment captured missing old new before after

-- ---- no packet follows

-- what is left of each is told, in the order in which they began
abbrev pub EndsAll : Parameters → Parameters → Option Shortfall → List (Pair × Connection) → Report → Report → Type 0
EndsAll a p missing [] old new = new ≡ old
EndsAll a p missing ((pair, one) ∷ all) old new =
    (mid : Report) × EndsWith a p pair false missing one.packets old mid × EndsAll a p missing all mid new
