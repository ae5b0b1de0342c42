-- Where the log of one end is told: with which packet of a capture it is refused, or which connection refuses it at the end.
use Rattle.std.specs.Prelude.{◌≡◌, ◌⊎◌, ◌++◌, ◌∷◌, ℕ, List, [], map, Option, Some, None, Err}
use Rattle.std.specs.declared.net.ip_addr.IpAddr.{IpAddr}
use Rattle.hsms_frame.specs.Io.{Grows}
use Rattle.hsms_machine.specs.Settings.{Parameters}
use Rattle.capture_errors.specs.declared.capture_error.CaptureError.{CaptureError}
use Rattle.capture_pcap.specs.declared.segment.Segment.{Segment}
use Rattle.capture_pcap.specs.declared.segment.Shown.{Shown}
use Rattle.capture_pcap.specs.declared.segment.Shown.TheVariants as shown
use Rattle.capture_pcap.specs.File.{Packet, Ending, ReadsFile}
use Rattle.capture_pcap.specs.Segment.{segment_at}
use Rattle.capture_tcp.specs.declared.packet.Side.{Side}
use Rattle.capture_midstream.specs.declared.buffered_packet.BufferedPacket.{BufferedPacket}
use Rattle.capture_midstream.specs.declared.packet_buffer.Beginnings.{Beginnings}
use Rattle.capture_midstream.specs.declared.sync_packet.Start.{Start}
use Rattle.capture_midstream.specs.PacketBuffer.{AreBeginnings, BuffersPackets}
use Rattle.capture_midstream.specs.SyntheticHandshake.{IsStart}
use Rattle.capture_tcp.specs.declared.events.TimedEvent.{TimedEvent}
use Rattle.capture_log.specs.SocketPair.{IsOfPeer, turned}
use Rattle.capture_log.specs.declared.written_log.WrittenLog.{WrittenLog}
use Rattle.capture_log.specs.declared.socket_pair.Pair.{Pair}
use Rattle.capture_log.specs.declared.stop.Stop.{Stop}
use Rattle.cli_capture.specs.declared.report.OutputMode.TheVariants.{Log}
use Rattle.cli_capture.specs.declared.report.Report.{Report}
use Rattle.capture_errors.specs.declared.incomplete.Shortfall.{Shortfall}
use Rattle.cli_capture.specs.Connections.{BeginsBoth, Captured, Connection, Connections, EndsAll, HasOne, IsOpen, IsReplaced, Starts, StartsAny, StartsOne, Packets, Session, brought_at, connection_of, buffered, of_session, of_syn, without}
use Rattle.cli_capture.specs.FileDispatch.{CapturesFile, DealsEach, DealsUpTo, IsBlank, Wanted, none_yet}
use Rattle.cli_capture.specs.OutputMode.{Way, to_log, to_verdicts}
use Rattle.cli_capture.specs.LogRejection.{RefusedWith, RefusesFor, lack_at_end}
use Rattle.cli_capture.specs.Report.{missing_after, session_of}
use Rattle.cli_capture.specs.MidstreamLog.{most_by, terms_by}
use Rattle.cli_capture.specs.MidstreamSync.{brought}
use Rattle.cli_capture.specs.LogRejectionMidstream.{IsRefusedWith, SessionRefused, ThroughRefused}
use Rattle.cli_capture.specs.MidstreamConnection.{Brought, Happens, counting, lack_within, logged_so_far, resets_of, seen_brought}
use Rattle.cli_capture.specs.Assumptions.{whole_log}
use Rattle.cli_capture.specs.Segments.{IsPairAt, body_in}
use Rattle.cli_capture.specs.ConnectionState.{answered_by}
use Rattle.cli_capture.specs.StopError.{error_of}
use Rattle.cli_capture.specs.ConnectionTable.{HasTime}

-- ---- a connection by its packets

-- a session that was running before: nothing of it was logged and it can't come up, or it lacks something
abbrev pub RunningEndRefused : Way → Parameters → Pair → Option Shortfall → Session → Stop → WrittenLog → Report → Report → Type 0
RunningEndRefused how a pair missing s st j old new =
    SessionRefused pair s.start (logged_so_far how a s.start s.packets s.happened) (whole_log (terms_by how a s.start) (counting s.start (resets_of s.packets) s.happened))
    (lack_within (most_by how a) s.start s.active s.passive s.packets s.happened missing) st j old new

-- as long as its packets are kept: with one of these, from where both of its directions begin, or behind all of them
abbrev pub KeptEndRefused : Way → Parameters → Parameters → Pair → Option Shortfall → List BufferedPacket → Stop → WrittenLog → Report → Report → Type 0
KeptEndRefused how a p pair missing gs st j old new =
    (both : Beginnings) × AreBeginnings (session_of a) gs both × (start : Start) × IsStart both.active.number both.passive.number gs start
    × (ThroughRefused how a p pair start both.active.number both.passive.number [] (map brought gs) st j old new
    ⊎ ((hs : List TimedEvent) × Happens both.active.number both.passive.number (map brought gs) hs
    × SessionRefused pair start [] (whole_log (terms_by how a start) (counting start (resets_of (map brought gs)) hs))
    (lack_within (most_by how a) start both.active.number both.passive.number (map brought gs) hs missing) st j old new))

-- it lacks something that ends, or can't come up
abbrev pub EndRefused : Parameters → Parameters → Pair → Option Shortfall → Option Packets → Stop → Report → Report → Type 0
EndRefused a p pair missing None st old new = ⊥
EndRefused a p pair missing (Some (of_syn number seen)) st old new = RefusesFor (lack_at_end (answered_by number seen) number seen missing) st old new
EndRefused a p pair missing (Some (buffered gs)) st old new =
    (j : WrittenLog) × (old.manner ≡ Log j) × KeptEndRefused (to_log j.settings j.side) a p pair missing gs st j old new
EndRefused a p pair missing (Some (of_session s)) st old new =
    (j : WrittenLog) × (old.manner ≡ Log j) × RunningEndRefused (to_log j.settings j.side) a pair missing s st j old new

-- since another one replaces it
abbrev pub LastRefused : Parameters → Parameters → Pair → Option Connection → Stop → Report → Report → Type 0
LastRefused a p pair None st old new = ⊥
LastRefused a p pair (Some one) st old new = EndRefused a p pair None one.packets st old new

-- the one before, whichever of the two ends connected
abbrev pub StartRefused : Parameters → Parameters → Pair → Connections → Stop → Report → Report → Type 0
StartRefused a p pair all st before after =
    LastRefused a p (turned pair) (connection_of all (turned pair)) st before after
    ⊎ ((mid : Report) × IsReplaced a p (turned pair) (connection_of all (turned pair)) before mid
    × LastRefused a p pair (connection_of (without (turned pair) all) pair) st mid after)

-- a session that was running before: with one packet more both of its directions begin, and one of those that were kept is
-- refused
abbrev pub KeptRefused : Way → Parameters → Parameters → Pair → Brought → List BufferedPacket → Stop → WrittenLog → Report → Report → Type 0
KeptRefused how a p pair g gs st j old new =
    (all : List BufferedPacket) × BuffersPackets g.segment g.octets gs all × (both : Beginnings) × BeginsBoth a g.segment all both
    × (start : Start) × IsStart both.active.number both.passive.number all start
    × ThroughRefused how a p pair start both.active.number both.passive.number [] (map brought all) st j old new

-- with one packet more
abbrev pub MoreRefused : Parameters → Parameters → Option Packets → Pair → Brought → Stop → Report → Report → Type 0
MoreRefused a p None pair g st old new = ⊥
MoreRefused a p (Some (of_syn number seen)) pair g st old new =
    (j : WrittenLog) × (old.manner ≡ Log j)
    × RefusedWith (answered_by number seen) (answered_by number (seen ++ seen_brought g ∷ [])) j pair number seen (seen_brought g) st old new
MoreRefused a p (Some (buffered gs)) pair g st old new =
    (j : WrittenLog) × (old.manner ≡ Log j) × KeptRefused (to_log j.settings j.side) a p pair g gs st j old new
MoreRefused a p (Some (of_session s)) pair g st old new =
    (j : WrittenLog) × (old.manner ≡ Log j)
    × IsRefusedWith (to_log j.settings j.side) a p pair s.start s.active s.passive s.packets s.happened g
    (logged_so_far (to_log j.settings j.side) a s.start s.packets s.happened) st j old new

abbrev pub NextRefused : Parameters → Parameters → Option Connection → Pair → Brought → Stop → Report → Report → Type 0
NextRefused a p None pair g st old new = ⊥
NextRefused a p (Some one) pair g st old new = MoreRefused a p one.packets pair g st old new

-- ---- a packet of the capture

-- the connection before that which it begins refuses, that one, or another one whose next packet it is
abbrev pub DealsRefused : Parameters → Parameters → Pair → Side → Segment → Brought → Connections → Stop → Report → Report → Type 0
DealsRefused a p pair from segment g all st before after =
    ((syn : Option ℕ) × Starts all pair from segment syn × StartRefused a p pair all st before after)
    ⊎ ((syn : Option ℕ) × (begun : Connections) × (ended : Report) × Starts all pair from segment syn
    × StartsOne a p pair syn all begun before ended × NextRefused a p (connection_of begun pair) pair g st ended after)
    ⊎ ((StartsAny all pair from segment → ⊥) × IsOpen all pair × NextRefused a p (connection_of all pair) pair g st before after)

abbrev pub DealsByRefused : Option IpAddr → Option (Pair × Side) → Parameters → Parameters → Segment → Captured → Connections → Stop → Report → Report → Type 0
DealsByRefused peer None a p segment captured all st before after = ⊥
DealsByRefused peer (Some found) a p segment captured all st before after =
    IsOfPeer peer found.0 × (time : ℕ) × HasTime captured.time time
    × DealsRefused a p found.0 found.1 segment (brought_at found.1 segment captured time) all st before after

abbrev pub DealsPacketRefused : ℕ → Option IpAddr → Parameters → Parameters → Segment → Captured → Connections → Stop → Report → Report → Type 0
DealsPacketRefused port peer a p segment captured all st before after =
    (found : Option (Pair × Side)) × IsPairAt (HasOne all) port segment found × DealsByRefused peer found a p segment captured all st before after

-- no packet follows: the first one that lacks something
abbrev pub EndsAllRefused : Parameters → Parameters → Option Shortfall → List (Pair × Connection) → Stop → Report → Report → Type 0
EndsAllRefused a p missing known st old new =
    (front : List (Pair × Connection)) × (pair : Pair) × (one : Connection) × (rest : List (Pair × Connection)) × (mid : Report)
    × (known ≡ front ++ (pair, one) ∷ rest) × EndsAll a p missing front old mid × EndRefused a p pair missing one.packets st mid new

-- ---- a packet of a file

abbrev pub ShownRefused : Shown → Wanted → ℕ → Option ℕ → List ℕ → Connections → Stop → Report → Report → Type 0
ShownRefused (shown.Segment segment) w number time octets all st before after =
    DealsPacketRefused w.port w.peer w.active w.passive segment (record { packet = number; time = time; octets = body_in segment octets }) all st before after
ShownRefused shown.Other w number time octets all st before after = ⊥
ShownRefused (shown.LeftOut reason) w number time octets all st before after = ⊥

abbrev pub OneRefused : Wanted → Packet → Connections → Stop → Report → Report → Type 0
OneRefused w p all st before after = ShownRefused (segment_at p.link p.octets) w p.number p.time p.octets all st before after

-- the words of a refusal, and what was written: what was on the page then
pub record IsWritten (st : Stop) (emitted : Report) (out now : Option (List ℕ)) (fault : CaptureError) : Type 0 where
  pub written : Grows out now emitted.page.octets
  pub says : fault ≡ error_of st

-- those before it were dealt, and what was told with them is written
pub record StopsAt (w : Wanted) (packets : List Packet) (all : Connections) (before : Report) (out now : Option (List ℕ)) (fault : CaptureError) : Type 0 where
  pub front : List Packet
  pub p : Packet
  pub rest : List Packet
  pub are : packets ≡ front ++ p ∷ rest
  pub mid : Connections
  pub between : Report
  pub put : Option (List ℕ)
  pub each : DealsEach w front all mid before between out put
  pub st : Stop
  pub emitted : Report
  pub refused : OneRefused w p mid st between emitted
  pub is_written : IsWritten st emitted put now fault

-- ---- the whole of it

-- it is refused with a packet
pub record RefusesPacket (w : Wanted) (input : List ℕ) (out now : Option (List ℕ)) (fault : CaptureError) : Type 0 where
  pub packets : List Packet
  pub ending : Ending
  pub first : Report
  pub reads : ReadsFile input packets ending
  pub blank : IsBlank w first
  pub stops : StopsAt w packets (none_yet w) first out now fault

-- it is refused since a connection that is left lacks something
pub record RefusesLeft (w : Wanted) (input : List ℕ) (out now : Option (List ℕ)) (fault : CaptureError) : Type 0 where
  pub packets : List Packet
  pub ending : Ending
  pub missing : Option Shortfall
  pub all : Connections
  pub first : Report
  pub last : Report
  pub put : Option (List ℕ)
  pub reads : ReadsFile input packets ending
  pub blank : IsBlank w first
  pub deals : DealsUpTo w packets ending missing (none_yet w) all first last out put
  pub st : Stop
  pub emitted : Report
  pub refused : EndsAllRefused w.active w.passive missing all.known st (record last { shortfall = missing_after last.shortfall missing }) emitted
  pub is_written : IsWritten st emitted put now fault

-- Where verdicts are told, only at the end: by what was found. Where the log of an end is, as well by what can't go on there.
abbrev pub RefusesBy : Way → Wanted → List ℕ → Option (List ℕ) → Option (List ℕ) → CaptureError → Type 0
RefusesBy to_verdicts w input out now fault = CapturesFile w input out now (Err fault)
RefusesBy (to_log settings side) w input out now fault =
    CapturesFile w input out now (Err fault) ⊎ RefusesPacket w input out now fault ⊎ RefusesLeft w input out now fault

-- holds if the capture is rejected: by the file, or with a log by a packet or a connection left at the end
abbrev pub RefusesFile : Wanted → List ℕ → Option (List ℕ) → Option (List ℕ) → CaptureError → Type 0
RefusesFile w input out now fault = RefusesBy w.way w input out now fault
