-- Where the log of one end is told: which refusal comes of a session that was running before the capture.
use Rattle.std.specs.Prelude.{◌≡◌, ◌⊎◌, ◌++◌, ◌∷◌, ℕ, true, List, [], Option, Some, None}
use Rattle.hsms_machine.specs.Settings.{Parameters}
use Rattle.capture_tcp.specs.declared.events.TimedEvent.{TimedEvent}
use Rattle.capture_log.specs.WrittenLog.{RefusesAssumed}
use Rattle.capture_log.specs.declared.written_log.WrittenLog.{WrittenLog}
use Rattle.capture_log.specs.declared.socket_pair.Pair.{Pair}
use Rattle.capture_log.specs.declared.stop.Stop.{Stop}
use Rattle.capture_midstream.specs.declared.sync_packet.Start.{Start}
use Rattle.cli_capture.specs.declared.progress.Progress.{Progress}
use Rattle.cli_capture.specs.declared.report.Report.{Report}
use Rattle.capture_errors.specs.declared.incomplete.Shortfall.{Shortfall}
use Rattle.capture_errors.specs.declared.incomplete.Shortfall.TheVariants.{Full}
use Rattle.cli_capture.specs.TrackedConnection.{IsTooMuch}
use Rattle.cli_capture.specs.MidstreamItems.{Item, LogsItems}
use Rattle.cli_capture.specs.MidstreamLog.{most_by, terms_by}
use Rattle.cli_capture.specs.ConnectionLog.{is_there}
use Rattle.cli_capture.specs.LogRejection.{RefusesFor}
use Rattle.cli_capture.specs.Assumptions.{whole_log}
use Rattle.cli_capture.specs.MidstreamConnection.{Brought, Happens, MayHappenMore, MayRunMore, counting, cut, lack_within, logged_so_far, resets_of, session_base, session_seen}
use Rattle.cli_capture.specs.OutputMode.{Way}

-- it can't come up where it begins: the one that came up last in this log has other addresses, or is up, or the last
-- entry of the log is later; and the page is as it was
abbrev pub StaysDown : Pair → Start → Stop → WrittenLog → Report → Report → Type 0
StaysDown pair start st j old new =
    RefusesAssumed j.begun pair start.packet j.time start.time st × (new.page.octets ≡ old.page.octets)

-- its log was empty before, and isn't with what is told: then it comes up, and can't
pub record LogRefused (pair : Pair) (start : Start) (had now : List Item) (st : Stop) (j : WrittenLog) (old new : Report) : Type 0 where
  pub none : had ≡ []
  pub some : is_there now ≡ true
  pub down : StaysDown pair start st j old new

-- ---- it is over

-- something is missing behind all that was told of it
pub record LackRefused (pair : Pair) (had has : List Item) (lack : Option Shortfall) (st : Stop) (j : WrittenLog) (old new : Report) : Type 0 where
  pub more : List Item
  pub has_is : has ≡ had ++ more
  pub progress : Progress
  pub mid : Report
  pub logs : LogsItems pair progress more j old mid
  pub refuses : RefusesFor lack st mid new

-- or it can't come up
abbrev pub SessionRefused : Pair → Start → List Item → List Item → Option Shortfall → Stop → WrittenLog → Report → Report → Type 0
SessionRefused pair start had has lack st j old new = LogRefused pair start had has st j old new ⊎ LackRefused pair had has lack st j old new

-- ---- by its packets

-- it is refused with a packet with which too much would wait
pub record GivesUpRefused (how : Way) (a p : Parameters) (pair : Pair) (start : Start) (active passive : ℕ) (gs : List Brought) (hs : List TimedEvent) (g : Brought) (had : List Item) (st : Stop) (j : WrittenLog) (old new : Report) : Type 0 where
  pub happens : Happens active passive gs hs
  pub more : MayRunMore (most_by how a) start active passive gs hs
  pub full : IsTooMuch (session_base active passive) (session_seen active passive gs) (cut active passive g)
  pub refuses : SessionRefused pair start had (whole_log (terms_by how a start) (counting start (resets_of gs) hs)) (Some (Full g.segment.packet)) st j old new

-- by what is told of these packets: what is sure of it can't come up, or no more may be told of it
abbrev pub ToldRefused : Way → Parameters → Parameters → Pair → Start → ℕ → ℕ → List Brought → List TimedEvent → List Item → Stop → WrittenLog → Report → Report → Type 0
ToldRefused how a p pair start active passive gs hs had st j old new =
    LogRefused pair start had (logged_so_far how a start gs hs) st j old new
    ⊎ ((MayHappenMore (most_by how a) start active passive gs hs → ⊥)
    × SessionRefused pair start had (whole_log (terms_by how a start) (counting start (resets_of gs) hs)) (lack_within (most_by how a) start active passive gs hs None) st j old new)

-- or by what is told with it
abbrev pub IsRefusedWith : Way → Parameters → Parameters → Pair → Start → ℕ → ℕ → List Brought → List TimedEvent → Brought → List Item → Stop → WrittenLog → Report → Report → Type 0
IsRefusedWith how a p pair start active passive gs hs g had st j old new =
    ((emitted : List TimedEvent) × Happens active passive (gs ++ g ∷ []) (hs ++ emitted)
    × ToldRefused how a p pair start active passive (gs ++ g ∷ []) (hs ++ emitted) had st j old new)
    ⊎ GivesUpRefused how a p pair start active passive gs hs g had st j old new

-- ---- of those that were kept

-- one of several packets
abbrev pub ThroughRefused : Way → Parameters → Parameters → Pair → Start → ℕ → ℕ → List Item → List Brought → Stop → WrittenLog → Report → Report → Type 0
ThroughRefused how a p pair start active passive had gs st j old new =
    (front : List Brought) × (g : Brought) × (rest : List Brought) × (gs ≡ front ++ g ∷ rest)
    × (hs : List TimedEvent) × IsRefusedWith how a p pair start active passive front hs g had st j old new
