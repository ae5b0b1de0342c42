-- What only contracts of private functions use, besides the definitions of `MidstreamOutput`.
use Rattle.std.specs.Prelude.{List, Option, None}
use Rattle.hsms_machine.specs.Settings.{Parameters}
use Rattle.capture_tcp.specs.declared.events.TimedEvent.{TimedEvent}
use Rattle.capture_log.specs.declared.socket_pair.Pair.{Pair}
use Rattle.capture_midstream.specs.declared.sync_packet.Start.{Start}
use Rattle.cli_capture.specs.declared.midstream_log.Joined.{Joined}
use Rattle.cli_capture.specs.declared.report.Report.{Report}
use Rattle.capture_errors.specs.declared.incomplete.Shortfall.{Shortfall}
use Rattle.cli_capture.specs.OutputMode.{Way}
use Rattle.cli_capture.specs.InnerOutputMode.{IsReport}
use Rattle.cli_capture.specs.MidstreamLog.{JoinedStands, most_by, terms_by}
use Rattle.cli_capture.specs.InnerMidstreamLog.{IsOverAs}
use Rattle.cli_capture.specs.Assumptions.{before_of, sure_log, whole_log}
use Rattle.cli_capture.specs.MidstreamOutput.{EndsSession, and_down}

-- ---- it is over

-- nothing more happens: what waits is told before; or nothing waits, since it is over by what happened
pub record FinishesAs (pair : Pair) (j : Joined) (lack : Option Shortfall) (old new : Report) : Type 0 where
  pub ends : (how : Way) (a p : Parameters) (start : Start) (hs : List TimedEvent) → IsReport how a p old → JoinedStands how a p start hs j
      → EndsSession how a p pair (whole_log (terms_by how a start) hs) (sure_log (terms_by how a start) hs) lack old new
  pub over : (how : Way) (a p : Parameters) (start : Start) (hs : List TimedEvent) (by : Option Shortfall) → IsReport how a p old
      → IsOverAs how a p start (before_of (most_by how a) hs) by hs j
      → EndsSession how a p pair (whole_log (terms_by how a start) hs) (whole_log (terms_by how a start) hs) lack old new

unfoldable pub ReplacedAs : Pair → Joined → Report → Report → Type 0
ReplacedAs pair j old new =
    (how : Way) (a p : Parameters) (start : Start) (hs : List TimedEvent) → IsReport how a p old → JoinedStands how a p start hs j
    → EndsSession how a p pair (and_down (whole_log (terms_by how a start) hs)) (sure_log (terms_by how a start) hs) None old new
