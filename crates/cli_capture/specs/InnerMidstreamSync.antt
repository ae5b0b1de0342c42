-- What only contracts of private functions use, besides the definitions of `MidstreamSync`.
use Rattle.std.specs.Prelude.{◌≡◌, ◌↔◌, ◌⊎◌, ◌++◌, ℕ, Bool, true, false, List, [], map, Option, Some, None}
use Rattle.hsms_machine.specs.Settings.{Parameters}
use Rattle.capture_tcp.specs.declared.packet.Segment.{Segment}
use Rattle.capture_tcp.specs.declared.events.TimedEvent.{TimedEvent}
use Rattle.capture_tcp.specs.Laws.{AreNumbered}
use Rattle.capture_log.specs.declared.socket_pair.Pair.{Pair}
use Rattle.capture_midstream.specs.declared.buffered_packet.BufferedPacket.{BufferedPacket}
use Rattle.capture_midstream.specs.declared.packet_buffer.Beginnings.{Beginnings}
use Rattle.capture_midstream.specs.declared.session_filter.Session.{Session}
use Rattle.capture_midstream.specs.declared.sync_packet.Start.{Start}
use Rattle.capture_midstream.specs.PacketBuffer.{AreBeginnings, AreSure, AreUnsure, BuffersPackets, IsDue}
use Rattle.capture_midstream.specs.SyntheticHandshake.{IsStart, has_both}
use Rattle.cli_capture.specs.declared.tracked_connection.ConnectionState.{ConnectionState}
use Rattle.cli_capture.specs.declared.tracked_connection.ConnectionState.TheVariants as stage
use Rattle.cli_capture.specs.declared.midstream_sync.Joining.{Joining}
use Rattle.cli_capture.specs.declared.midstream_sync.Joining.TheVariants as joining
use Rattle.cli_capture.specs.declared.report.Report.{Report}
use Rattle.capture_errors.specs.declared.incomplete.Shortfall.{Shortfall}
use Rattle.cli_capture.specs.declared.midstream_connection.Within.{Within}
use Rattle.cli_capture.specs.OutputMode.{Way}
use Rattle.cli_capture.specs.InnerOutputMode.{IsReport}
use Rattle.cli_capture.specs.Report.{session_of}
use Rattle.cli_capture.specs.MidstreamConnection.{Brought, IsWithin, logged_so_far, session_seen}
use Rattle.cli_capture.specs.InnerMidstreamConnection.{EndsWithin, TakesWithin}
use Rattle.cli_capture.specs.MidstreamSync.{brought, GoesThrough, IsLast}

-- ---- several packets of one that is followed

unfoldable pub TakesThrough : Pair → List Brought → Within → Option Within → Report → Report → Type 0
TakesThrough pair ss w left old new =
    (how : Way) (a p : Parameters) (start : Start) (gs : List Brought) (hs : List TimedEvent) → IsReport how a p old
    → AreNumbered 0 (session_seen w.active w.passive (gs ++ ss)) → IsWithin how a p start gs hs w
    → GoesThrough how a p pair start w.active w.passive (logged_so_far how a start gs hs) (gs ++ ss) left old new

-- ---- from where both directions begin

-- Nothing of it is told, where they don't begin with these packets. Else it is one whose directions begin there.
unfoldable pub TakesFrom : Pair → List BufferedPacket → Beginnings → Option Within → Report → Report → Type 0
TakesFrom pair gs both left old new =
    ((has_both both.active.number both.passive.number gs ≡ false) × (left ≡ None) × (new ≡ old))
    ⊎ ((start : Start) × IsStart both.active.number both.passive.number gs start
    × ((how : Way) (a p : Parameters) → IsReport how a p old → AreNumbered 0 (session_seen both.active.number both.passive.number (map brought gs))
    → GoesThrough how a p pair start both.active.number both.passive.number [] (map brought gs) left old new))

abbrev pub BeginsSo : Pair → Session → List BufferedPacket → Bool → Option Within → Report → Report → Type 0
BeginsSo pair s gs last left old new =
    (both : Beginnings) × AreBeginnings s gs both × (last ≡ false → AreSure both) × TakesFrom pair gs both left old new

-- With these packets both directions begin: surely, where more are kept, and else as far as they tell. Or they are kept.
unfoldable pub BeginsWith : Pair → Session → List BufferedPacket → Bool → Joining → Report → Report → Type 0
BeginsWith pair s gs last (joining.BuffersPackets gathering) old new = (gathering ≡ gs) × (new ≡ old) × (last ≡ false) × AreUnsure s gs
BeginsWith pair s gs last (joining.Within w) old new = BeginsSo pair s gs last (Some w) old new
BeginsWith pair s gs last joining.Over old new = BeginsSo pair s gs last None old new

abbrev pub BeginsLast : Pair → Session → Segment → List BufferedPacket → Option Within → Report → Report → Type 0
BeginsLast pair s segment gs left old new = (last : Bool) × ((last ≡ true) ↔ IsLast segment gs) × (last ≡ false → IsDue gs) × BeginsSo pair s gs last left old new

-- one packet more, with which they are kept, or both directions begin
abbrev pub GathersTo : Pair → Session → Segment → List BufferedPacket → Joining → Report → Report → Type 0
GathersTo pair s segment gs (joining.BuffersPackets gathering) old new =
    (gathering ≡ gs) × (new ≡ old) × (IsLast segment gs → ⊥) × ((IsDue gs → ⊥) ⊎ AreUnsure s gs)
GathersTo pair s segment gs (joining.Within w) old new = BeginsLast pair s segment gs (Some w) old new
GathersTo pair s segment gs joining.Over old new = BeginsLast pair s segment gs None old new

unfoldable pub GathersOn : Pair → Session → Segment → List ℕ → List BufferedPacket → Joining → Report → Report → Type 0
GathersOn pair s segment octets gs j old new = (all : List BufferedPacket) × BuffersPackets segment octets gs all × GathersTo pair s segment all j old new

-- ---- how far it is

abbrev pub stage_with : Joining → ConnectionState
stage_with (joining.BuffersPackets gathering) = stage.Joining gathering
stage_with (joining.Within w) = stage.Within w
stage_with joining.Over = stage.Over

abbrev pub stage_within : Option Within → ConnectionState
stage_within (Some w) = stage.Within w
stage_within None = stage.Over

abbrev pub KeepsStage : Pair → Segment → List ℕ → List BufferedPacket → ConnectionState → Report → Report → Type 0
KeepsStage pair segment octets gs next old new =
    (j : Joining) × (next ≡ stage_with j) × GathersOn pair (session_of old.active) segment octets gs j old new

abbrev pub TakesStageWithin : Pair → Brought → Within → ConnectionState → Report → Report → Type 0
TakesStageWithin pair g w next old new = (left : Option Within) × (next ≡ stage_within left) × TakesWithin pair g w left old new

-- one packet more of a session that was running before: it is kept, or the session is followed
abbrev pub TakesJoined : Pair → Segment → List ℕ → ConnectionState → ConnectionState → Report → Report → Type 0
TakesJoined pair segment octets (stage.Opening waiting) next old new = Unit {0}
TakesJoined pair segment octets (stage.Open o) next old new = Unit {0}
TakesJoined pair segment octets (stage.Joining gathering) next old new = KeepsStage pair segment octets gathering next old new
TakesJoined pair segment octets (stage.Within w) next old new = TakesStageWithin pair (record { segment = segment; octets = octets }) w next old new
TakesJoined pair segment octets stage.Over next old new = Unit {0}

-- No packet follows: those that are kept are all that there are, and what is left is told.
abbrev pub EndsLeft : Pair → Bool → Option Shortfall → Option Within → Report → Report → Type 0
EndsLeft pair replaced missing None old new = new ≡ old
EndsLeft pair replaced missing (Some w) old new = EndsWithin pair replaced missing w old new

abbrev pub EndsGathered : Pair → Bool → Option Shortfall → List BufferedPacket → Report → Report → Type 0
EndsGathered pair replaced missing gs old new =
    (left : Option Within) × (mid : Report) × BeginsSo pair (session_of old.active) gs true left old mid × EndsLeft pair replaced missing left mid new

abbrev pub EndsJoined : Pair → Bool → Option Shortfall → ConnectionState → Report → Report → Type 0
EndsJoined pair replaced missing (stage.Opening waiting) old new = Unit {0}
EndsJoined pair replaced missing (stage.Open o) old new = Unit {0}
EndsJoined pair replaced missing (stage.Joining gathering) old new = EndsGathered pair replaced missing gathering old new
EndsJoined pair replaced missing (stage.Within w) old new = EndsWithin pair replaced missing w old new
EndsJoined pair replaced missing stage.Over old new = Unit {0}
