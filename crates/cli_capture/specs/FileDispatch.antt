-- What is told of a capture file, packet by packet.
use Rattle.std.specs.Prelude.{◌≡◌, ◌⊎◌, ◌+◌, ◌-◌, ◌^◌, ◌++◌, ◌∷◌, min, ℕ, Bool, true, List, [], Option, Some, None, Result, is_some}
use Rattle.std.specs.declared.net.ip_addr.IpAddr.{IpAddr}
use Rattle.hsms_frame.specs.Io.{Grows}
use Rattle.hsms_machine.specs.Settings.{Parameters}
use Rattle.capture_errors.specs.declared.capture_error.CaptureError.{CaptureError}
use Rattle.capture_pcap.specs.declared.fault.FileFault.TheVariants as stop
use Rattle.capture_pcap.specs.declared.segment.Shown.{Shown}
use Rattle.capture_pcap.specs.declared.segment.Shown.TheVariants as shown
use Rattle.capture_pcap.specs.File.{Packet, Ending, ReadsFile, complete, cut, faulty}
use Rattle.capture_pcap.specs.Segment.{segment_at}
use Rattle.cli_capture.specs.declared.report.OutputMode.{OutputMode}
use Rattle.cli_capture.specs.declared.report.OutputMode.TheVariants.{Log, Verdicts}
use Rattle.cli_capture.specs.declared.report.Report.{Report}
use Rattle.capture_errors.specs.declared.incomplete.Shortfall.{Shortfall}
use Rattle.capture_errors.specs.declared.incomplete.Shortfall.TheVariants as lacks
use Rattle.cli_capture.specs.Connections.{Connections, DealsPacket, EndsAll}
use Rattle.cli_capture.specs.SkippedPackets.{left_out_after, line_of, none_left_out}
use Rattle.cli_capture.specs.Report.{Answers, found_of, missing_after, nothing_found}
use Rattle.cli_capture.specs.Segments.{body_in}
use Rattle.cli_capture.specs.OutputMode.{Way, to_log, to_verdicts}

-- What is looked at: connections whose passive ends have this port, and of which one end has this address, where one is
-- asked for; both ends have these settings; and whether sessions are that were running before the capture.
pub record Wanted : Type 0 where
  pub port : ℕ
  pub peer : Option IpAddr
  pub way : Way
  pub active : Parameters
  pub passive : Parameters
  pub joined : Bool

-- ---- a packet

-- what it carries goes to a connection, where that is a segment; what is left out is counted
abbrev pub DealsShown : Shown → Wanted → ℕ → Option ℕ → List ℕ → Option Shortfall → Connections → Connections → Report → Report → Type 0
DealsShown (shown.Segment segment) w number time octets missing old new before after =
    DealsPacket w.port w.peer w.active w.passive segment (record { packet = number; time = time; octets = body_in segment octets }) missing old new before after
DealsShown shown.Other w number time octets missing old new before after = (missing ≡ None) × (new ≡ old) × (after ≡ before)
DealsShown (shown.LeftOut reason) w number time octets missing old new before after =
    (missing ≡ None) × (new ≡ old) × (after ≡ record before { left_out = left_out_after before.left_out reason })

abbrev pub DealsOne : Wanted → Packet → Option Shortfall → Connections → Connections → Report → Report → Type 0
DealsOne w p missing old new before after = DealsShown (segment_at p.link p.octets) w p.number p.time p.octets missing old new before after

-- what is told with it is written with it
pub record PutsOut (emitted after : Report) (out now : Option (List ℕ)) : Type 0 where
  pub written : Grows out now emitted.page.octets
  pub same : after ≡ record emitted { page = after.page }
  pub none : after.page.octets ≡ []

-- ---- packets, one after another

abbrev pub DealsEach : Wanted → List Packet → Connections → Connections → Report → Report → Option (List ℕ) → Option (List ℕ) → Type 0
DealsEach w [] old new before after out now = (new ≡ old) × (after ≡ before) × (now ≡ out)
DealsEach w (p ∷ ps) old new before after out now =
    (mid : Connections) × (emitted : Report) × (next : Report) × (put : Option (List ℕ)) × DealsOne w p None old mid before emitted × PutsOut emitted next out put
    × DealsEach w ps mid new next after put now

-- what is missing of a file, by how it ends, from the packet behind those that were passed on; counts stay at their greatest
-- value
abbrev pub next_packet : ℕ → ℕ
next_packet count = min (count + 1) (2 ^ 64 - 1)

abbrev pub LacksBy : Ending → Option Shortfall → Type 0
LacksBy complete missing = missing ≡ None
LacksBy (cut count) missing = missing ≡ Some (lacks.File stop.CutOff (next_packet count))
LacksBy (faulty count place fault) missing = missing ≡ Some (lacks.File (stop.Capture place fault) (next_packet count))

-- all of them, and what is missing of the file; or up to one that lacks something, behind which nothing can be told
abbrev pub DealsUpTo : Wanted → List Packet → Ending → Option Shortfall → Connections → Connections → Report → Report → Option (List ℕ) → Option (List ℕ) → Type 0
DealsUpTo w ps ending missing old new before after out now =
    (LacksBy ending missing × DealsEach w ps old new before after out now)
    ⊎ ((front : List Packet) × (p : Packet) × (rest : List Packet) × (mid : Connections) × (between : Report) × (emitted : Report) × (put : Option (List ℕ))
    × (ps ≡ front ++ p ∷ rest) × (is_some missing ≡ true) × DealsEach w front old mid before between out put × DealsOne w p missing mid new between emitted
    × PutsOut emitted after put now)

-- ---- the whole of it

abbrev pub none_yet : Wanted → Connections
none_yet w = record { known = []; begun = 0; joined = w.joined }

-- nothing is told yet
abbrev pub BeginsAs : Way → OutputMode → Type 0
BeginsAs to_verdicts manner = manner ≡ Verdicts
BeginsAs (to_log settings side) manner = manner ≡ Log (record { settings = settings; side = side; begun = None; time = 0 })

pub record IsBlank (w : Wanted) (report : Report) : Type 0 where
  pub manner_is : BeginsAs w.way report.manner
  pub active : report.active ≡ w.active
  pub passive : report.passive ≡ w.passive
  pub found : found_of report ≡ nothing_found
  pub left_out : report.left_out ≡ none_left_out
  pub page : report.page.octets ≡ []

-- what is left of each connection is told, and which packets were left out; and what is answered is so by what was found
pub record Concluded (w : Wanted) (missing : Option Shortfall) (all : Connections) (before : Report) (out now : Option (List ℕ)) (result : Result Bool CaptureError) : Type 0 where
  pub emitted : Report
  pub ends : EndsAll w.active w.passive missing all.known (record before { shortfall = missing_after before.shortfall missing }) emitted
  pub written : Grows out now (emitted.page.octets ++ line_of emitted.left_out)
  pub answers : Answers (found_of emitted) result

-- Holds if the output and the result are those of a file: its packets are dispatched to connections, one by one. What the
-- packets of a connection show is written once it is final, or at the end.
pub record CapturesFile (w : Wanted) (input : List ℕ) (out now : Option (List ℕ)) (result : Result Bool CaptureError) : Type 0 where
  pub packets : List Packet
  pub ending : Ending
  pub missing : Option Shortfall
  pub all : Connections
  pub first : Report
  pub last : Report
  pub put : Option (List ℕ)
  pub reads : ReadsFile input packets ending
  pub blank : IsBlank w first
  pub deals : DealsUpTo w packets ending missing (none_yet w) all first last out put
  pub concluded : Concluded w missing all last put now result
