-- What only contracts of private functions use, besides the definitions of `LogRejectionMidstream`.
use Rattle.std.specs.Prelude.{◌≡◌, ◌≢◌, ◌↔◌, ◌⊎◌, ◌<◌, ◌++◌, ◌∷◌, ℕ, Bool, true, false, List, [], length, map, Option, Some, None}
use Rattle.hsms_frame.specs.declared.header.Header.{Header}
use Rattle.hsms_machine.specs.Settings.{Parameters}
use Rattle.capture_tcp.specs.declared.packet.Side.{Side}
use Rattle.capture_tcp.specs.declared.events.TimedEvent.{TimedEvent}
use Rattle.capture_tcp.specs.Laws.{AreNumbered}
use Rattle.capture_log.specs.declared.written_log.WrittenLog.{WrittenLog}
use Rattle.capture_log.specs.declared.socket_pair.Pair.{Pair}
use Rattle.capture_log.specs.declared.stop.Stop.{Stop}
use Rattle.capture_tcp.specs.declared.packet.Segment.{Segment}
use Rattle.capture_midstream.specs.declared.buffered_packet.BufferedPacket.{BufferedPacket}
use Rattle.capture_midstream.specs.declared.packet_buffer.Beginnings.{Beginnings}
use Rattle.capture_midstream.specs.declared.session_filter.Session.{Session}
use Rattle.capture_midstream.specs.declared.sync_packet.Start.{Start}
use Rattle.capture_midstream.specs.PacketBuffer.{AreBeginnings, AreSure, BuffersPackets, IsDue}
use Rattle.capture_midstream.specs.SyntheticHandshake.{IsStart}
use Rattle.capture_midstream.specs.declared.assumption.Assumption.{Assumption}
use Rattle.capture_midstream.specs.Assumption.{assumed_by}
use Rattle.cli_capture.specs.declared.tracked_connection.ConnectionState.{ConnectionState}
use Rattle.cli_capture.specs.declared.tracked_connection.ConnectionState.TheVariants as stage
use Rattle.cli_capture.specs.declared.midstream_log.Joined.{Joined}
use Rattle.cli_capture.specs.declared.midstream_log.Part.{Part}
use Rattle.cli_capture.specs.declared.midstream_log.Part.TheVariants.{Message}
use Rattle.cli_capture.specs.declared.report.Report.{Report}
use Rattle.capture_errors.specs.declared.incomplete.Shortfall.{Shortfall}
use Rattle.cli_capture.specs.declared.midstream_connection.Within.{Within}
use Rattle.cli_capture.specs.TrackedConnection.{came_up_by, is_up_event}
use Rattle.cli_capture.specs.MidstreamLog.{IsTelling, IsWaiting, JoinedStands, most_by, spoken_behind, terms_by}
use Rattle.cli_capture.specs.InnerMidstreamLog.{IsOverAs}
use Rattle.cli_capture.specs.LogRejection.{RefusesFor}
use Rattle.cli_capture.specs.InnerLogRejection.{InLog}
use Rattle.cli_capture.specs.PendingRequests.{nothing_spoken, spoken_to}
use Rattle.cli_capture.specs.Assumptions.{Before, before_of, looked_at, said_by, session_items, since, sure_log, whole_log}
use Rattle.cli_capture.specs.MidstreamConnection.{Brought, Happens, IsWithin, counting, lack_within, logged_so_far, resets_of, session_seen}
use Rattle.cli_capture.specs.MidstreamSync.{IsLast, brought}
use Rattle.cli_capture.specs.InnerMidstreamSync.{BeginsSo}
use Rattle.cli_capture.specs.Report.{session_of}
use Rattle.cli_capture.specs.OutputMode.{Way}
use Rattle.cli_capture.specs.InnerOutputMode.{IsReport}
use Rattle.cli_capture.specs.LogRejectionMidstream.{StaysDown, LogRefused, SessionRefused, IsRefusedWith, ThroughRefused}

abbrev pub CantComeUp : Pair → Start → Stop → Report → Report → Type 0
CantComeUp pair start st old new = InLog st old (λ j. StaysDown pair start st j old new)

-- which it hadn't before
abbrev pub ComesUpRefused : Pair → Joined → Stop → Report → Report → Type 0
ComesUpRefused pair joined st old new = InLog st old (λ j. (joined.is_up ≡ false) × StaysDown pair joined.start st j old new)

-- with a message that is told
abbrev pub PartRefused : Pair → Part → TimedEvent → Joined → Stop → Report → Report → Type 0
PartRefused pair part h joined st old new =
    InLog st old (λ j. is_up_event h.event ≡ false → (part ≡ Message) × (joined.is_up ≡ false) × StaysDown pair joined.start st j old new)

-- of several that happen, by what stood before
abbrev pub TellsRefused : Pair → List TimedEvent → Joined → Stop → Report → Report → Type 0
TellsRefused pair ms joined st old new =
    InLog st old (λ j. (how : Way) (a p : Parameters) (start : Start) (b : Before) (hs : List TimedEvent) → IsReport how a p old
    → IsTelling how a p start b hs joined → came_up_by ms ≡ false
    → LogRefused pair start (session_items (terms_by how a start) b hs) (session_items (terms_by how a start) b (hs ++ ms)) st j old new)

-- ---- by what is known of what stood before

-- what stood before is decided: one of those that wait would be told
abbrev pub DecidesRefused : Pair → Assumption → Side → Joined → Stop → Report → Report → Type 0
DecidesRefused pair assumed asker joined st old new =
    InLog st old (λ j. (how : Way) (a p : Parameters) (start : Start) (hs : List TimedEvent) → IsReport how a p old → joined.start ≡ start
    → IsWaiting (most_by how a) hs joined
    → LogRefused pair start [] (session_items (terms_by how a start) (record { assumed = assumed; asker = asker }) hs) st j old new)

-- what waits is told
abbrev pub SettlesRefused : Pair → Joined → Stop → Report → Report → Type 0
SettlesRefused pair joined st old new =
    InLog st old (λ j. (joined.waiting.items ≢ [])
    × ((how : Way) (a p : Parameters) (start : Start) (hs : List TimedEvent) → IsReport how a p old → JoinedStands how a p start hs joined
    → LogRefused pair start (sure_log (terms_by how a start) hs) (whole_log (terms_by how a start) hs) st j old new))

-- a message waits which decides nothing
abbrev pub UndecidedRefused : Pair → Side → Header → TimedEvent → Joined → Stop → Report → Report → Type 0
UndecidedRefused pair from message h joined st old new =
    InLog st old (λ j. (how : Way) (a p : Parameters) (start : Start) (hs : List TimedEvent) → IsReport how a p old → joined.start ≡ start → length hs < looked_at
    → IsWaiting (most_by how a) hs joined → said_by (most_by how a) h.event ≡ Some (from, message)
    → assumed_by message (spoken_to from (spoken_behind (most_by how a) nothing_spoken hs)) ≡ None
    → LogRefused pair start (sure_log (terms_by how a start) hs) (sure_log (terms_by how a start) (hs ++ h ∷ [])) st j old new)

-- what no end takes, or that it goes down, comes before anything decides what stood before
abbrev pub SettlesAndTellsRefused : Pair → TimedEvent → Joined → Stop → Report → Report → Type 0
SettlesAndTellsRefused pair h joined st old new =
    InLog st old (λ j. (how : Way) (a p : Parameters) (start : Start) (hs : List TimedEvent) → IsReport how a p old → joined.start ≡ start → length hs < looked_at
    → IsWaiting (most_by how a) hs joined → said_by (most_by how a) h.event ≡ None → is_up_event h.event ≡ false
    → LogRefused pair start (sure_log (terms_by how a start) hs) (sure_log (terms_by how a start) (hs ++ h ∷ [])) st j old new)

-- one more that counts
abbrev pub HearsNextRefused : Pair → TimedEvent → Joined → Stop → Report → Report → Type 0
HearsNextRefused pair h joined st old new =
    InLog st old (λ j. (how : Way) (a p : Parameters) (start : Start) (hs : List TimedEvent) → IsReport how a p old → JoinedStands how a p start hs joined
    → is_up_event h.event ≡ false
    → LogRefused pair start (sure_log (terms_by how a start) hs) (sure_log (terms_by how a start) (hs ++ h ∷ [])) st j old new)

-- several, one after another
abbrev pub EachRefused : Pair → List TimedEvent → Joined → Stop → Report → Report → Type 0
EachRefused pair ms joined st old new =
    InLog st old (λ j. (how : Way) (a p : Parameters) (start : Start) (all : List TimedEvent) → IsReport how a p old → JoinedStands how a p start (since start all) joined
    → LogRefused pair start (sure_log (terms_by how a start) (since start all)) (sure_log (terms_by how a start) (since start (all ++ ms))) st j old new)

-- ---- it is over

pub record FinishRefused (pair : Pair) (joined : Joined) (lack : Option Shortfall) (st : Stop) (old new : Report) : Type 0 where
  pub ends : InLog st old (λ j. (how : Way) (a p : Parameters) (start : Start) (hs : List TimedEvent) → IsReport how a p old → JoinedStands how a p start hs joined
      → SessionRefused pair start (sure_log (terms_by how a start) hs) (whole_log (terms_by how a start) hs) lack st j old new)
  pub over : InLog st old (λ j. (how : Way) (a p : Parameters) (start : Start) (hs : List TimedEvent) (by : Option Shortfall) → IsReport how a p old
      → IsOverAs how a p start (before_of (most_by how a) hs) by hs joined → RefusesFor lack st old new)

-- another connection replaces it
abbrev pub ReplaceRefused : Pair → Joined → Stop → Report → Report → Type 0
ReplaceRefused pair joined st old new =
    InLog st old (λ j. (how : Way) (a p : Parameters) (start : Start) (hs : List TimedEvent) → IsReport how a p old → JoinedStands how a p start hs joined
    → LogRefused pair start (sure_log (terms_by how a start) hs) (whole_log (terms_by how a start) hs) st j old new)

-- ---- by its packets

abbrev pub PacketRefused : Pair → Brought → Within → Stop → Report → Report → Type 0
PacketRefused pair g w st old new =
    InLog st old (λ j. (how : Way) (a p : Parameters) (start : Start) (gs : List Brought) (hs : List TimedEvent) → IsReport how a p old
    → AreNumbered 0 (session_seen w.active w.passive (gs ++ g ∷ [])) → IsWithin how a p start gs hs w
    → IsRefusedWith how a p pair start w.active w.passive gs hs g (logged_so_far how a start gs hs) st j old new)

-- no packet follows
abbrev pub WithinEndRefused : Pair → Option Shortfall → Within → Stop → Report → Report → Type 0
WithinEndRefused pair missing w st old new =
    InLog st old (λ j. (how : Way) (a p : Parameters) (start : Start) (gs : List Brought) (hs : List TimedEvent) → IsReport how a p old
    → AreNumbered 0 (session_seen w.active w.passive gs) → IsWithin how a p start gs hs w
    → Happens w.active w.passive gs hs
    × SessionRefused pair start (logged_so_far how a start gs hs) (whole_log (terms_by how a start) (counting start (resets_of gs) hs))
    (lack_within (most_by how a) start w.active w.passive gs hs missing) st j old new)

-- ---- of those that were kept

abbrev pub PacketsRefused : Pair → List Brought → Within → Stop → Report → Report → Type 0
PacketsRefused pair ss w st old new =
    InLog st old (λ j. (how : Way) (a p : Parameters) (start : Start) (gs : List Brought) (hs : List TimedEvent) → IsReport how a p old
    → AreNumbered 0 (session_seen w.active w.passive (gs ++ ss)) → IsWithin how a p start gs hs w
    → ThroughRefused how a p pair start w.active w.passive (logged_so_far how a start gs hs) (gs ++ ss) st j old new)

-- from where both directions begin
abbrev pub FromRefused : Pair → List BufferedPacket → Beginnings → Stop → WrittenLog → Report → Report → Type 0
FromRefused pair gs both st j old new =
    (start : Start) × IsStart both.active.number both.passive.number gs start
    × ((how : Way) (a p : Parameters) → IsReport how a p old → AreNumbered 0 (session_seen both.active.number both.passive.number (map brought gs))
    → ThroughRefused how a p pair start both.active.number both.passive.number [] (map brought gs) st j old new)

abbrev pub BeginRefused : Pair → Session → List BufferedPacket → Bool → Stop → WrittenLog → Report → Report → Type 0
BeginRefused pair s gs last st j old new =
    (both : Beginnings) × AreBeginnings s gs both × (last ≡ false → AreSure both) × FromRefused pair gs both st j old new

-- with one packet more
abbrev pub GatherRefused : Pair → Session → Segment → List ℕ → List BufferedPacket → Stop → WrittenLog → Report → Report → Type 0
GatherRefused pair s segment octets gs st j old new =
    (all : List BufferedPacket) × BuffersPackets segment octets gs all
    × (last : Bool) × ((last ≡ true) ↔ IsLast segment all) × (last ≡ false → IsDue all) × BeginRefused pair s all last st j old new

-- where no packet follows those that are kept
abbrev pub EndGatheredRefused : Pair → Option Shortfall → List BufferedPacket → Stop → WrittenLog → Report → Report → Type 0
EndGatheredRefused pair missing gs st j old new =
    BeginRefused pair (session_of old.active) gs true st j old new
    ⊎ ((w : Within) × (mid : Report) × BeginsSo pair (session_of old.active) gs true (Some w) old mid × WithinEndRefused pair missing w st mid new)

-- ---- how far it is

abbrev pub TakesJoinedRefused : Pair → Segment → List ℕ → ConnectionState → Stop → Report → Report → Type 0
TakesJoinedRefused pair segment octets (stage.Opening waiting) st old new = Unit {0}
TakesJoinedRefused pair segment octets (stage.Open o) st old new = Unit {0}
TakesJoinedRefused pair segment octets (stage.Joining gathering) st old new = InLog st old (λ j. GatherRefused pair (session_of old.active) segment octets gathering st j old new)
TakesJoinedRefused pair segment octets (stage.Within w) st old new = PacketRefused pair (record { segment = segment; octets = octets }) w st old new
TakesJoinedRefused pair segment octets stage.Over st old new = Unit {0}

abbrev pub EndsJoinedRefused : Pair → Option Shortfall → ConnectionState → Stop → Report → Report → Type 0
EndsJoinedRefused pair missing (stage.Opening waiting) st old new = Unit {0}
EndsJoinedRefused pair missing (stage.Open o) st old new = Unit {0}
EndsJoinedRefused pair missing (stage.Joining gathering) st old new = InLog st old (λ j. EndGatheredRefused pair missing gathering st j old new)
EndsJoinedRefused pair missing (stage.Within w) st old new = WithinEndRefused pair missing w st old new
EndsJoinedRefused pair missing stage.Over st old new = Unit {0}
