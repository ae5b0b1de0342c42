-- A session that was running before its capture, from its first packet on: its packets are kept until both of its directions
-- have begun, and then they are its packets from there on.
use Rattle.std.specs.Prelude.{◌≡◌, ◌⊎◌, ◌++◌, ◌∷◌, ℕ, Bool, true, false, List, [], map, Option, Some, None}
use Rattle.hsms_machine.specs.Settings.{Parameters}
use Rattle.capture_tcp.specs.declared.packet.Segment.{Segment}
use Rattle.capture_tcp.specs.declared.events.TimedEvent.{TimedEvent}
use Rattle.capture_log.specs.declared.socket_pair.Pair.{Pair}
use Rattle.capture_midstream.specs.declared.buffered_packet.BufferedPacket.{BufferedPacket}
use Rattle.capture_midstream.specs.declared.sync_packet.Start.{Start}
use Rattle.capture_midstream.specs.PacketBuffer.{IsFull}
use Rattle.capture_midstream.specs.SyntheticHandshake.{IsStart, has_both}
use Rattle.cli_capture.specs.declared.report.Report.{Report}
use Rattle.capture_errors.specs.declared.incomplete.Shortfall.{Shortfall}
use Rattle.cli_capture.specs.declared.midstream_connection.Within.{Within}
use Rattle.cli_capture.specs.OutputMode.{Way}
use Rattle.cli_capture.specs.MidstreamItems.{Item}
use Rattle.cli_capture.specs.MidstreamConnection.{Brought, Happens, IsOverWith, IsWithin, LogsFurther, TellsWithin, logged_so_far}

-- ---- several packets of one that is followed

abbrev pub brought : BufferedPacket → Brought
brought g = record { segment = g.segment; octets = g.octets.items }

-- it is over with one of these packets, or it goes on behind all of them
abbrev pub GoesThrough : Way → Parameters → Parameters → Pair → Start → ℕ → ℕ → List Item → List Brought → Option Within → Report → Report → Type 0
GoesThrough how a p pair start active passive had gs None old new =
    (front : List Brought) × (g : Brought) × (rest : List Brought) × (gs ≡ front ++ g ∷ rest)
    × (hs : List TimedEvent) × IsOverWith how a p pair start active passive front hs g had old new
GoesThrough how a p pair start active passive had gs (Some next) old new =
    (next.active ≡ active) × (next.passive ≡ passive)
    × (hs : List TimedEvent) × Happens active passive gs hs × IsWithin how a p start gs hs next
    × LogsFurther how pair had (logged_so_far how a start gs hs) old new

-- ---- from where both directions begin

-- the same, where all is told of it with these packets
abbrev pub IsOverFrom : Way → Parameters → Parameters → Pair → ℕ → ℕ → List BufferedPacket → Report → Report → Type 0
IsOverFrom how a p pair active passive gs old new =
    ((has_both active passive gs ≡ false) × (new ≡ old))
    ⊎ ((start : Start) × IsStart active passive gs start × GoesThrough how a p pair start active passive [] (map brought gs) None old new)

-- or where no packet follows them
abbrev pub EndsFrom : Way → Parameters → Parameters → Pair → Bool → Option Shortfall → ℕ → ℕ → List BufferedPacket → Report → Report → Type 0
EndsFrom how a p pair replaced missing active passive gs old new =
    IsOverFrom how a p pair active passive gs old new
    ⊎ ((start : Start) × IsStart active passive gs start × (hs : List TimedEvent) × Happens active passive (map brought gs) hs
    × TellsWithin how a p pair start active passive (map brought gs) hs [] replaced missing old new)

-- no more are kept behind a packet: it is a reset, or so many are kept with it
abbrev pub IsLast : Segment → List BufferedPacket → Type 0
IsLast segment gs = (segment.reset ≡ true) ⊎ IsFull gs
