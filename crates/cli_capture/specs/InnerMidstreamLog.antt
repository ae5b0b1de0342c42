-- What only contracts of private functions use, besides the definitions of `MidstreamLog`.
use Rattle.std.specs.Prelude.{◌≡◌, ◌<◌, ◌++◌, ◌∷◌, max, ℕ, Bool, true, false, if◌then◌else◌, List, [], length, map, Option, Some, None, Box}
use Rattle.std.specs.Option.{option_map}
use Rattle.std.specs.declared.alloc.Global.{Global}
use Rattle.hsms_machine.specs.Settings.{Parameters}
use Rattle.capture_tcp.specs.declared.packet.Side.{Side}
use Rattle.capture_tcp.specs.declared.events.Event.{Event}
use Rattle.capture_tcp.specs.declared.events.Event.TheVariants as happens
use Rattle.capture_tcp.specs.declared.events.TimedEvent.{TimedEvent}
use Rattle.hsms_frame.specs.declared.header.Header.{Header}
use Rattle.capture_log.specs.declared.both_logs.BothLogs.{BothLogs}
use Rattle.capture_log.specs.declared.written_log.WrittenLog.{WrittenLog}
use Rattle.capture_log.specs.declared.socket_pair.Pair.{Pair}
use Rattle.capture_midstream.specs.Requests.{is_left_out}
use Rattle.capture_midstream.specs.declared.sync_packet.Start.{Start}
use Rattle.capture_midstream.specs.Assumption.{assumed_by}
use Rattle.capture_midstream.specs.declared.assumption.Assumption.{Assumption}
use Rattle.cli_capture.specs.declared.progress.Progress.{Progress}
use Rattle.cli_capture.specs.declared.progress.Progress.TheVariants as progress
use Rattle.cli_capture.specs.declared.midstream_log.Joined.{Joined}
use Rattle.cli_capture.specs.declared.midstream_log.Part.{Part}
use Rattle.cli_capture.specs.declared.midstream_log.Part.TheVariants as part
use Rattle.cli_capture.specs.declared.report.OutputMode.TheVariants.{Log, Verdicts}
use Rattle.cli_capture.specs.declared.report.Report.{Report}
use Rattle.capture_errors.specs.declared.incomplete.Shortfall.{Shortfall}
use Rattle.capture_errors.specs.declared.incomplete.Shortfall.TheVariants.{Length}
use Rattle.cli_capture.specs.OutputMode.{Way, to_verdicts}
use Rattle.cli_capture.specs.InnerOutputMode.{IsReport}
use Rattle.cli_capture.specs.TrackedConnection.{came_up_by, course_by_events, is_up_event, logged_by}
use Rattle.cli_capture.specs.MidstreamItems.{EndsHaveItems, Item, LogsItems, leaves_out, emits}
use Rattle.cli_capture.specs.InnerMidstreamItems.{EndsHadItems, EndsItemsBy, TakesItems}
use Rattle.cli_capture.specs.PendingRequests.{Spoken, nothing_spoken, spoken_to}
use Rattle.cli_capture.specs.Assumptions.{Before, Terms, asked, before_of, items_of, looked_at, said_by, session_items, since, spoken_with, supposed_items, sure_log, tells_some, whole_log}
use Rattle.cli_capture.specs.MidstreamLog.{most_by, terms_by, latest_after, spoken_behind, SaidAs, IsWaiting, IsReported, IsTelling, JoinedStands}

-- while it hasn't come up nothing is told of it, and the report stays as it was; and one that came up stays so
unfoldable pub IsQuiet : Bool → Bool → Report → Report → Type 0
IsQuiet was_up is_up old new = is_up ≡ false → (was_up ≡ false) × (new ≡ old)

-- ---- it is told, by what is supposed

-- it is over with the last of these, and may lack something
pub record IsOverAs (how : Way) (a p : Parameters) (start : Start) (b : Before) (lack : Option Shortfall) (hs : List TimedEvent) (j : Joined) : Type 0 where
  pub start_is : j.start ≡ start
  pub waiting : j.waiting.items ≡ []
  pub course_is : course_by_events (most_by how a) hs ≡ progress.Over lack
  pub up : j.is_up ≡ tells_some (items_of (terms_by how a start) b hs)
  pub ends : how ≡ to_verdicts → EndsHadItems a p (session_items (terms_by how a start) b hs) j.ends

abbrev pub ToldBy : Progress → Way → Parameters → Parameters → Start → Before → List TimedEvent → Joined → Type 0
ToldBy progress.Proceeds how a p start b hs j = IsReported how a p start b hs j
ToldBy (progress.Over lack) how a p start b hs j = IsOverAs how a p start b lack hs j

abbrev pub TellingBy : Progress → Way → Parameters → Parameters → Start → Before → List TimedEvent → Joined → Type 0
TellingBy progress.Proceeds how a p start b hs j = IsTelling how a p start b hs j
TellingBy (progress.Over lack) how a p start b hs j = IsOverAs how a p start b lack hs j

abbrev pub StandsBy : Progress → Way → Parameters → Parameters → Start → List TimedEvent → Joined → Type 0
StandsBy progress.Proceeds how a p start hs j = JoinedStands how a p start hs j
StandsBy (progress.Over lack) how a p start hs j = IsOverAs how a p start (before_of (most_by how a) hs) lack hs j

-- ---- one thing more

-- what becomes of it
abbrev pub part_with : Option (Side × Header) → Terms → Spoken → ℕ → Part
part_with None t spoken latest = part.End
part_with (Some m) t spoken latest = if is_left_out m.1 (spoken_to m.0 spoken) t.begun t.t3 latest then part.LeftOut else part.Message

-- and what both ends have asked for then
unfoldable pub IsPartOf : TimedEvent → Report → Joined → Part → Joined → Type 0
IsPartOf h report old which new =
    (how : Way) (a p : Parameters) (start : Start) (latest : ℕ) (spoken : Spoken) → IsReport how a p report → old.start ≡ start
    → SaidAs (terms_by how a start) latest spoken old.said
    → (which ≡ part_with (said_by (most_by how a) h.event) (terms_by how a start) spoken (max latest h.time))
    × SaidAs (terms_by how a start) (max latest h.time) (spoken_with (said_by (most_by how a) h.event) spoken) new.said

-- what happens is logged, where it has an entry
unfoldable pub HearsItem : Pair → TimedEvent → Progress → Option (Box BothLogs Global) → Report → Option (Box BothLogs Global) → Report → Type 0
HearsItem pair h c ends old left new =
    (old.manner ≡ Verdicts → (new ≡ old) × ((before : List Item) → EndsHaveItems old.active old.passive before ends
    → (c ≡ course_by_events old.active.max (h ∷ [])) × EndsItemsBy c old.active old.passive (before ++ map emits (logged_by old.active.max (h ∷ []))) left))
    × ((j : WrittenLog) → old.manner ≡ Log j → (c ≡ course_by_events j.settings.max (h ∷ []))
    × LogsItems pair c (map emits (logged_by j.settings.max (h ∷ []))) j old new)

-- so much more is logged with these
abbrev pub LogsMore : Pair → Progress → List Item → List Item → Joined → Report → Joined → Report → Type 0
LogsMore pair c logged now old before new after = (more : List Item) × (now ≡ logged ++ more) × TakesItems pair c more old.ends before new.ends after

unfoldable pub TellsPart : Pair → Part → TimedEvent → Joined → Report → Progress → Joined → Report → Type 0
TellsPart pair which h old before c new after =
    (how : Way) (a p : Parameters) (start : Start) (b : Before) (hs : List TimedEvent) → IsReport how a p before → IsReported how a p start b hs old
    → is_up_event h.event ≡ false
    → which ≡ part_with (said_by (most_by how a) h.event) (terms_by how a start) (spoken_behind (most_by how a) (asked b) hs) (max (latest_after 0 hs) h.time)
    → LogsMore pair c (session_items (terms_by how a start) b hs) (session_items (terms_by how a start) b (hs ++ h ∷ [])) old before new after
    × ToldBy c how a p start b (hs ++ h ∷ []) new

-- several, one after another
unfoldable pub TellsThem : Pair → List TimedEvent → Joined → Report → Progress → Joined → Report → Type 0
TellsThem pair ms old before c new after =
    (how : Way) (a p : Parameters) (start : Start) (b : Before) (hs : List TimedEvent) → IsReport how a p before → IsTelling how a p start b hs old
    → came_up_by ms ≡ false
    → LogsMore pair c (session_items (terms_by how a start) b hs) (session_items (terms_by how a start) b (hs ++ ms)) old before new after
    × TellingBy c how a p start b (hs ++ ms) new

-- what waits is told: all that happened
unfoldable pub Settles : Pair → Joined → Report → Progress → Joined → Report → Type 0
Settles pair old before c new after =
    (how : Way) (a p : Parameters) (start : Start) (hs : List TimedEvent) → IsReport how a p before → JoinedStands how a p start hs old
    → (c ≡ progress.Proceeds) × LogsMore pair progress.Proceeds (sure_log (terms_by how a start) hs) (whole_log (terms_by how a start) hs) old before new after
    × IsTelling how a p start (before_of (most_by how a) hs) hs new

-- one more that counts
unfoldable pub HearsNext : Pair → TimedEvent → Joined → Report → Progress → Joined → Report → Type 0
HearsNext pair h old before c new after =
    (how : Way) (a p : Parameters) (start : Start) (hs : List TimedEvent) → IsReport how a p before → JoinedStands how a p start hs old
    → is_up_event h.event ≡ false
    → LogsMore pair c (sure_log (terms_by how a start) hs) (sure_log (terms_by how a start) (hs ++ h ∷ [])) old before new after
    × StandsBy c how a p start (hs ++ h ∷ []) new

-- anything
unfoldable pub HearsOn : Pair → TimedEvent → Joined → Report → Progress → Joined → Report → Type 0
HearsOn pair h old before c new after =
    (how : Way) (a p : Parameters) (start : Start) (all : List TimedEvent) → IsReport how a p before → JoinedStands how a p start (since start all) old
    → LogsMore pair c (sure_log (terms_by how a start) (since start all)) (sure_log (terms_by how a start) (since start (all ++ h ∷ []))) old before new after
    × StandsBy c how a p start (since start (all ++ h ∷ [])) new

-- several, one after another
unfoldable pub HearsEach : Pair → List TimedEvent → Joined → Report → Progress → Joined → Report → Type 0
HearsEach pair ms old before c new after =
    (how : Way) (a p : Parameters) (start : Start) (all : List TimedEvent) → IsReport how a p before → JoinedStands how a p start (since start all) old
    → LogsMore pair c (sure_log (terms_by how a start) (since start all)) (sure_log (terms_by how a start) (since start (all ++ ms))) old before new after
    × StandsBy c how a p start (since start (all ++ ms)) new

-- ---- parts of that

-- nothing has happened yet
unfoldable pub IsNew : Start → Joined → Type 0
IsNew start j = (most : ℕ) → (j.start ≡ start) × IsWaiting most [] j

-- what stood before is decided: all that waited is told
unfoldable pub Decides : Pair → Assumption → Side → Joined → Report → Progress → Joined → Report → Type 0
Decides pair assumed asker old before c new after =
    (how : Way) (a p : Parameters) (start : Start) (hs : List TimedEvent) → IsReport how a p before → old.start ≡ start → IsWaiting (most_by how a) hs old
    → (c ≡ progress.Proceeds) × (new.is_decided ≡ true)
    × LogsMore pair progress.Proceeds [] (session_items (terms_by how a start) (record { assumed = assumed; asker = asker }) hs) old before new after
    × IsTelling how a p start (record { assumed = assumed; asker = asker }) hs new

-- a message waits which decides nothing
unfoldable pub Waits : Pair → Side → Header → TimedEvent → Joined → Report → Progress → Joined → Report → Type 0
Waits pair from message h old before c new after =
    (how : Way) (a p : Parameters) (start : Start) (hs : List TimedEvent) → IsReport how a p before → old.start ≡ start → length hs < looked_at
    → IsWaiting (most_by how a) hs old → said_by (most_by how a) h.event ≡ Some (from, message)
    → assumed_by message (spoken_to from (spoken_behind (most_by how a) nothing_spoken hs)) ≡ None
    → LogsMore pair c (sure_log (terms_by how a start) hs) (sure_log (terms_by how a start) (hs ++ h ∷ [])) old before new after
    × StandsBy c how a p start (hs ++ h ∷ []) new

-- what no end takes, or that it goes down, comes before anything decides what stood before
unfoldable pub SettlesAndTells : Pair → TimedEvent → Joined → Report → Progress → Joined → Report → Type 0
SettlesAndTells pair h old before c new after =
    (how : Way) (a p : Parameters) (start : Start) (hs : List TimedEvent) → IsReport how a p before → old.start ≡ start → length hs < looked_at
    → IsWaiting (most_by how a) hs old → said_by (most_by how a) h.event ≡ None → is_up_event h.event ≡ false
    → LogsMore pair c (sure_log (terms_by how a start) hs) (sure_log (terms_by how a start) (hs ++ h ∷ [])) old before new after
    × StandsBy c how a p start (hs ++ h ∷ []) new

-- ---- what is told when it comes up

abbrev pub come_items : Joined → List Item
come_items j = supposed_items (record { assumed = j.assumed; asker = j.asker }) j.start.time ++ map leaves_out j.left_out.items

abbrev pub come_items_if : Bool → Joined → List Item
come_items_if true j = []
come_items_if false j = come_items j

-- a message that is left out
abbrev pub left_items : Bool → ℕ → List Item
left_items true packet = leaves_out packet ∷ []
left_items false packet = []

abbrev pub left_packets : Bool → ℕ → List ℕ
left_packets true packet = []
left_packets false packet = packet ∷ []

-- how it ends that never came up
abbrev pub end_course : Event → ℕ → Progress
end_course happens.Up packet = progress.Proceeds
end_course (happens.Message from octets) packet = progress.Over (Some (Length packet))
end_course happens.Down packet = progress.Over None

-- the logs of one that came up
abbrev pub ends_if : Bool → Option (Box BothLogs Global) → Option BothLogs
ends_if true ends = option_map (λ box. box.value) ends
ends_if false ends = None
