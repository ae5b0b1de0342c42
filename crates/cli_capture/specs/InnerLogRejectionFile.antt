-- What only contracts of private functions use, besides the definitions of `LogRejectionFile`.
use Rattle.std.specs.Prelude.{◌≡◌, ◌⊎◌, ◌<◌, ◌+◌, ◌^◌, ℕ, List, Option, Err}
use Rattle.std.specs.declared.net.ip_addr.IpAddr.{IpAddr}
use Rattle.hsms_frame.specs.Io.{IfRecorded}
use Rattle.hsms_machine.specs.Settings.{Parameters}
use Rattle.capture_errors.specs.declared.capture_error.CaptureError.{CaptureError}
use Rattle.capture_pcap.specs.declared.next_block.Record.{Record}
use Rattle.capture_pcap.specs.declared.segment.Segment.{Segment}
use Rattle.capture_pcap.specs.BlockReader.{Reading, ReadsOn}
use Rattle.capture_pcap.specs.File.{Packet, Ending}
use Rattle.capture_pcap.specs.Segment.{segment_at}
use Rattle.capture_log.specs.declared.stop.Stop.{Stop}
use Rattle.cli_capture.specs.declared.report.Report.{Report}
use Rattle.capture_errors.specs.declared.incomplete.Shortfall.{Shortfall}
use Rattle.cli_capture.specs.declared.connection_table.Capture.{Capture}
use Rattle.cli_capture.specs.declared.connection_table.Table.{Table}
use Rattle.cli_capture.specs.Connections.{Connections}
use Rattle.cli_capture.specs.FileDispatch.{Wanted}
use Rattle.cli_capture.specs.OutputMode.{Way}
use Rattle.cli_capture.specs.InnerOutputMode.{IsReport}
use Rattle.cli_capture.specs.InnerTableInvariant.{ConcludesAsDealt, FinishesAsDealt, IsReportOf, IsTable, IsTableOf, captured_of}
use Rattle.cli_capture.specs.Report.{missing_after}
use Rattle.capture_errors.specs.Errors.{IsRefusal}
use Rattle.cli_capture.specs.InnerStopError.{IsRefused}
use Rattle.cli_capture.specs.LogRejectionFile.{DealsPacketRefused, EndsAllRefused, ShownRefused, IsWritten, StopsAt}

-- ---- the connections that are kept

abbrev pub TakesAsRefused : Segment → Capture → Table → Stop → Report → Report → Type 0
TakesAsRefused segment capture table st before after =
    IsRefused st → (port : ℕ) (peer : Option IpAddr) (how : Way) (a p : Parameters) (last : ℕ) (all : Connections) → IsReport how a p before
    → last < capture.packet → capture.packet + 3 < 2 ^ 64 → IsTable port peer how a p last table all
    → DealsPacketRefused port peer a p segment (captured_of capture) all st before after

abbrev pub EndsAsRefused : Option Shortfall → Table → Stop → Report → Report → Type 0
EndsAsRefused missing table st old new =
    IsRefused st → (port : ℕ) (peer : Option IpAddr) (how : Way) (a p : Parameters) (last : ℕ) (all : Connections) → IsReport how a p old
    → IsTable port peer how a p last table all → EndsAllRefused a p missing all.known st old new

abbrev pub ShowsAsRefused : ℕ → Record → List ℕ → Table → Stop → Report → Report → Type 0
ShowsAsRefused packet r octets table st before after =
    IsRefused st → (w : Wanted) (last : ℕ) (all : Connections) → IsReportOf w before → last < packet → packet + 3 < 2 ^ 64 → IsTableOf w last table all
    → ShownRefused (segment_at r.link octets) w packet r.time octets all st before after

-- and it is written what was on the page
abbrev pub PutsAsRefused : ℕ → Record → List ℕ → Table → Report → Option (List ℕ) → Option (List ℕ) → CaptureError → Type 0
PutsAsRefused packet r octets table before out now fault =
    IsRefusal fault → (w : Wanted) (last : ℕ) (all : Connections) → IsReportOf w before → last < packet → packet + 3 < 2 ^ 64 → IsTableOf w last table all
    → (st : Stop) × (emitted : Report) × ShownRefused (segment_at r.link octets) w packet r.time octets all st before emitted × IsWritten st emitted out now fault

unfoldable pub ReadsAsRefused : Reading → Option (List ℕ) → Table → Report → Option (List ℕ) → Option (List ℕ) → CaptureError → Type 0
ReadsAsRefused reading left table before out now fault =
    IsRefusal fault → (w : Wanted) (all : Connections) → reading.state.packets ≡ 0 → IsReportOf w before → IsTableOf w 0 table all
    → IfRecorded left (λ input. (packets : List Packet) × (ending : Ending) × ReadsOn reading input packets ending × StopsAt w packets all before out now fault)

-- at the end: by what was found, or by one that is left
abbrev pub ConcludesAsRefused : Option Shortfall → Table → Report → Report → Stop → Type 0
ConcludesAsRefused missing table before after st =
    IsRefused st → ConcludesAsDealt missing table before after (Err st)
    ⊎ ((w : Wanted) (last : ℕ) (all : Connections) → IsReportOf w before → IsTableOf w last table all
    → EndsAllRefused w.active w.passive missing all.known st (record before { shortfall = missing_after before.shortfall missing }) after)

abbrev pub FinishesAsRefused : Option Shortfall → Table → Report → Option (List ℕ) → Option (List ℕ) → CaptureError → Type 0
FinishesAsRefused missing table before out now fault =
    IsRefusal fault → FinishesAsDealt missing table before out now (Err fault)
    ⊎ ((w : Wanted) (last : ℕ) (all : Connections) → IsReportOf w before → IsTableOf w last table all → (st : Stop) × (emitted : Report)
    × EndsAllRefused w.active w.passive missing all.known st (record before { shortfall = missing_after before.shortfall missing }) emitted × IsWritten st emitted out now fault)
