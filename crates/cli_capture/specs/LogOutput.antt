-- The log of one end, where it is told as a capture is read: what a connection tells with a packet stands on its page.
use Rattle.std.specs.Prelude.{◌≡◌, ◌<◌, ◌&&◌, ◌++◌, ◌∷◌, max, ℕ, Bool, true, false, List, [], length, Option, None, Some}
use Rattle.hsms_machine.specs.Settings.{Parameters}
use Rattle.hsms_machine.specs.declared.entry.Event.TheVariants as logs_event
use Rattle.capture_tcp.specs.declared.packet.Side.{Side}
use Rattle.capture_tcp.specs.declared.events.TimedEvent.{TimedEvent}
use Rattle.capture_tcp.specs.TcpStreams.{End, Seen, places}
use Rattle.capture_tcp.specs.EndOfStream.{ended}
use Rattle.capture_tcp.specs.KnownStreams.{bases}
use Rattle.capture_tcp.specs.Laws.{AreNumbered}
use Rattle.capture_tcp.specs.ReaderInvariant.{StateInvariant}
use Rattle.capture_tcp.specs.Timestamps.{IsInTime}
use Rattle.capture_tcp.specs.ConnectionEvents.{ConnectionEvent, up, message, down, Entry, emits}
use Rattle.capture_log.specs.AuditedLog.{Note, note_text}
use Rattle.capture_log.specs.BothLogs.{note_of}
use Rattle.capture_log.specs.WrittenLog.{MayComeUp, came_up as begins, front_of, went_down}
use Rattle.capture_log.specs.declared.audited_log.LogComment.TheVariants as remark
use Rattle.capture_log.specs.declared.written_log.Begun.{Begun}
use Rattle.capture_log.specs.declared.written_log.WrittenLog.{WrittenLog}
use Rattle.capture_log.specs.declared.socket_pair.Pair.{Pair}
use Rattle.cli_capture.specs.declared.progress.Progress.{Progress}
use Rattle.cli_capture.specs.declared.progress.Progress.TheVariants as progress
use Rattle.cli_capture.specs.declared.tracked_connection.Open.{Open}
use Rattle.cli_capture.specs.declared.report.OutputMode.TheVariants.{Log}
use Rattle.cli_capture.specs.declared.report.Report.{Report}
use Rattle.capture_errors.specs.declared.incomplete.Shortfall.{Shortfall}
use Rattle.cli_capture.specs.Progress.{lack_behind}
use Rattle.cli_capture.specs.ConnectionLog.{EntryIs, bare_resets, came_up, clock_of, course_by, entries_logged, lack_by}
use Rattle.cli_capture.specs.TrackedConnection.{AllFit, came_up_by, course_by_events}
use Rattle.cli_capture.specs.ConnectionState.{first_shown}

-- what it has so far: the connection that came up last, the time of the last entry, and its text that isn't written yet
pub record Page : Type 0 where
  pub begun : Option Begun
  pub time : ℕ
  pub text : List ℕ

abbrev pub page_of : WrittenLog → Report → Page
page_of j report = record { begun = j.begun; time = j.time; text = report.page.octets }

-- ---- things that happen

-- the page has it; a message that no end takes adds nothing to it
abbrev pub OnPage : Progress → (Page → Page → Type 0) → Page → Page → Type 0
OnPage progress.Proceeds Proceeds old new = Proceeds old new
OnPage (progress.Over None) Proceeds old new = Proceeds old new
OnPage (progress.Over (Some lack)) Proceeds old new = (mid : Page) × Proceeds old mid × (new.text ≡ mid.text)

-- it goes down since a later connection replaces it
abbrev pub with_down : Page → Page
with_down old = record {
  begun = went_down old.begun;
  time = old.time;
  text = old.text ++ note_text (note_of remark.Replaced old.time logs_event.Down);
}

-- a connection counts as told where it came up
abbrev pub CountsIf : Bool → Report → Report → Type 0
CountsIf false old new = new ≡ old
CountsIf true old new = new ≡ record old { has_told = true }

-- ---- the same by the entries of the definition

abbrev pub front_behind : Option Begun → Parameters → ConnectionEvent → List ℕ
front_behind begun settings up = front_of begun settings
front_behind begun settings (message d octets) = []
front_behind begun settings down = []

abbrev pub begun_behind : Option Begun → Pair → ConnectionEvent → Option Begun
begun_behind begun pair up = begins pair
begun_behind begun pair (message d octets) = begun
begun_behind begun pair down = went_down begun

abbrev pub MayBeTold : Option Begun → Pair → ConnectionEvent → Type 0
MayBeTold begun pair up = MayComeUp begun pair
MayBeTold begun pair (message d octets) = Unit {0}
MayBeTold begun pair down = Unit {0}

abbrev pub with_entry : Parameters → Pair → (ℕ → Entry → ℕ) → Page → Entry → Note → Page
with_entry settings pair clock old e note = record {
  begun = begun_behind old.begun pair e.emitted;
  time = clock old.time e;
  text = (old.text ++ front_behind old.begun settings e.emitted) ++ note_text note;
}

abbrev pub EntriesOn : Parameters → Side → Pair → (ℕ → Entry → ℕ) → List Entry → Page → Page → Type 0
EntriesOn settings side pair clock [] old new = new ≡ old
EntriesOn settings side pair clock (e ∷ es) old new =
    MayBeTold old.begun pair e.emitted × (note : Note) × EntryIs (clock old.time e) side e note
    × EntriesOn settings side pair clock es (with_entry settings pair clock old e note) new

-- ---- a connection that is followed from its SYN on

-- behind these segments
pub record IsOpenIn (most : ℕ) (base : End → ℕ) (seen : List Seen) (o : Open) : Type 0 where
  pub emitted : List TimedEvent
  pub unended : o.connection.ending ≡ None
  pub consistent : StateInvariant o.connection emitted base seen
  pub timed : IsInTime o.connection emitted base seen
  pub proceeds : course_by_events most emitted ≡ progress.Proceeds
  pub up : o.logs.is_up ≡ came_up_by emitted
  pub bare : o.logs.bare_resets.items ≡ bare_resets seen
  pub fit : AllFit base [] seen

-- whatever follows it is over, and lacks this, or nothing
abbrev pub IsOver : Option Shortfall → ℕ → (End → ℕ) → List Seen → Type 0
IsOver lack most base seen =
    (later : List Seen) (missing : Option Shortfall) → AreNumbered 0 (seen ++ later)
    → (entries_logged most (emits (places base [] (seen ++ later))) ≡ entries_logged most (emits (places base [] seen)))
    × (lack_by (course_by most (emits (places base [] (seen ++ later)))) (ended (places base [] (seen ++ later))) missing ≡ lack)

abbrev pub LeavesOpen : ℕ → (End → ℕ) → List Seen → Option Open → Report → Report → Type 0
LeavesOpen most base seen None old new =
    IsOver None most base seen × CountsIf (came_up (entries_logged most (emits (places base [] seen)))) old new
LeavesOpen most base seen (Some o) old new = (new ≡ old) × IsOpenIn most base seen o

-- No segment follows: all was told before, but that it goes down where another one replaces it. It lacks nothing, and counts
-- as told where it came up.
abbrev pub down_if : Bool → Page → Page
down_if false old = old
down_if true old = with_down old

pub record EndsOn (j : WrittenLog) (base : End → ℕ) (seen : List Seen) (replaced : Bool) (missing : Option Shortfall) (old new : Report) : Type 0 where
  pub lacks : lack_behind (ended (places base [] seen)) missing ≡ None
  pub mid : Report
  pub next : WrittenLog
  pub manner_is : mid.manner ≡ Log next
  pub settings_are : next.settings ≡ j.settings
  pub side_is : next.side ≡ j.side
  pub on : page_of next mid ≡ down_if (replaced && came_up (emits (places base [] seen))) (page_of j old)
  pub same : mid ≡ record old { manner = mid.manner; page = mid.page }
  pub counts : CountsIf (came_up (emits (places base [] seen))) mid new

-- ---- several segments, one after another

-- with each the page gets what is told with it
abbrev pub SegmentsOn : Parameters → Side → Pair → (End → ℕ) → List Seen → List Seen → Page → Page → Type 0
SegmentsOn settings side pair base before [] old new = new ≡ old
SegmentsOn settings side pair base before (s ∷ ss) old new =
    (more : List Entry) × (mid : Page) × (emits (places base [] (before ++ s ∷ [])) ≡ emits (places base [] before) ++ more)
    × EntriesOn settings side pair (clock_of base (before ++ s ∷ [])) (entries_logged settings.max more) old mid
    × SegmentsOn settings side pair base (before ++ s ∷ []) ss mid new

-- the page goes on so, and nothing else changes
pub record LogsTo (Proceeds : Page → Page → Type 0) (j : WrittenLog) (old new : Report) : Type 0 where
  pub next : WrittenLog
  pub manner_is : new.manner ≡ Log next
  pub settings_are : next.settings ≡ j.settings
  pub side_is : next.side ≡ j.side
  pub on : Proceeds (page_of j old) (page_of next new)
  pub same : new ≡ record old { manner = new.manner; page = new.page }

-- it goes on behind all of them, or it is over with one of them
abbrev pub ThemOn : WrittenLog → Pair → (End → ℕ) → List Seen → List Seen → Option Open → Report → Report → Type 0
ThemOn j pair base before ss None old new =
    (front : List Seen) × (s : Seen) × (rest : List Seen) × (ss ≡ front ++ s ∷ rest) × (mid : Report)
    × LogsTo (SegmentsOn j.settings j.side pair base before (front ++ s ∷ [])) j old mid
    × LeavesOpen j.settings.max base (before ++ (front ++ s ∷ [])) None mid new
ThemOn j pair base before ss (Some o) old new =
    LogsTo (SegmentsOn j.settings j.side pair base before ss) j old new × IsOpenIn j.settings.max base (before ++ ss) o

-- ---- a connection by the number of its SYN

-- what is told with a segment, by the numbers of the passive end's SYN that are known before it and with it
abbrev pub TellsWith : Option ℕ → Option ℕ → Parameters → Side → Pair → ℕ → List Seen → Seen → Page → Page → Type 0
TellsWith (Some other) now settings side pair number seen s old new = SegmentsOn settings side pair (bases number other) seen (s ∷ []) old new
TellsWith None (Some other) settings side pair number seen s old new = SegmentsOn settings side pair (bases number other) [] (seen ++ s ∷ []) old new
TellsWith None None settings side pair number seen s old new = new ≡ old

-- all is told of it, and it lacks nothing
abbrev pub OverOnPage : Option ℕ → Option ℕ → WrittenLog → Pair → ℕ → List Seen → Seen → Report → Report → Type 0
OverOnPage (Some other) now j pair number seen s old new = ThemOn j pair (bases number other) seen (s ∷ []) None old new
OverOnPage None (Some other) j pair number seen s old new = ThemOn j pair (bases number other) [] (seen ++ s ∷ []) None old new
OverOnPage None None j pair number seen s old new = (4096 < length (seen ++ s ∷ [])) × (first_shown (seen ++ s ∷ []) ≡ None) × (new ≡ old)

-- no segment follows
abbrev pub EndsOnPageBy : Option ℕ → WrittenLog → ℕ → List Seen → Bool → Option Shortfall → Report → Report → Type 0
EndsOnPageBy None j number seen replaced missing old new = (first_shown seen ≡ None) × (new ≡ old)
EndsOnPageBy (Some other) j number seen replaced missing old new = EndsOn j (bases number other) seen replaced missing old new
