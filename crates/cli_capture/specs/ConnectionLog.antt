-- What both ends of a connection that begins with a SYN log of it, by what the wire shows, and what is told of it.
use Rattle.std.specs.Prelude.{◌≡◌, ◌&&◌, ◌||◌, ◌++◌, ◌∷◌, max, ℕ, nat_eq, Bool, true, false, if◌then◌else◌, List, [], length, drop, flat_map, Option, Some, None, is_some, is_none}
use Rattle.std.specs.List.{list_any}
use Rattle.hsms_frame.specs.Frame.{Frame}
use Rattle.hsms_machine.specs.Settings.{Parameters}
use Rattle.hsms_machine.specs.declared.entry.Entry.{Entry as LogEntry}
use Rattle.hsms_machine.specs.declared.entry.Event.{Event as LogEvent}
use Rattle.hsms_machine.specs.declared.entry.Event.TheVariants as logs_event
use Rattle.hsms_log.specs.LineFormat.{message_octets}
use Rattle.capture_tcp.specs.declared.ending.Ending.{Ending}
use Rattle.capture_tcp.specs.declared.packet.Side.{Side}
use Rattle.capture_tcp.specs.declared.packet.Side.TheVariants as side
use Rattle.capture_tcp.specs.TcpStreams.{End, Seen, places}
use Rattle.capture_tcp.specs.Laws.{AreNumbered}
use Rattle.capture_tcp.specs.Losses.{side_of}
use Rattle.capture_tcp.specs.EndOfStream.{ended}
use Rattle.capture_tcp.specs.Timestamps.{time_at}
use Rattle.capture_tcp.specs.ConnectionEvents.{ConnectionEvent, up, message, down, Entry, emits}
use Rattle.capture_log.specs.AuditedLog.{Note, SaysOf}
use Rattle.capture_log.specs.BothLogs.{event_of, is_no_message, note_of}
use Rattle.capture_log.specs.declared.audited_log.LogComment.TheVariants as remark
use Rattle.capture_log.specs.declared.audited_log.LogVerdict.{LogVerdict as Checked}
use Rattle.capture_log.specs.declared.both_logs.LogResult.{LogResult}
use Rattle.capture_log.specs.declared.both_logs.LogResult.TheVariants as reception
use Rattle.capture_log.specs.declared.socket_pair.Pair.{Pair}
use Rattle.cli_capture.specs.declared.progress.Progress.{Progress}
use Rattle.cli_capture.specs.declared.progress.Progress.TheVariants as progress
use Rattle.cli_capture.specs.declared.report.Report.{Report}
use Rattle.capture_errors.specs.declared.incomplete.Shortfall.{Shortfall}
use Rattle.cli_capture.specs.Progress.{course_behind, lack_behind}
use Rattle.cli_capture.specs.Report.{HasEmitted, LogOutputState}

-- ---- which part of what is told both ends log

-- a message that no end takes has no entry, and nothing behind it has
abbrev pub processed_as : ℕ → ConnectionEvent → LogResult
processed_as most up = reception.Proceeds
processed_as most (message d octets) = if is_no_message most (length octets) then reception.Length else reception.Proceeds
processed_as most down = reception.Down

abbrev pub and_logged : {A : Type 0} → LogResult → A → List A → List A
and_logged reception.Proceeds x rest = x ∷ rest
and_logged reception.Down x rest = x ∷ []
and_logged reception.Length x rest = []

abbrev pub logged : {A : Type 0} → (A → LogResult) → List A → List A
logged processes_input [] = []
logged processes_input (x ∷ xs) = and_logged (processes_input x) x (logged processes_input xs)

-- whether more may be told behind it, or what is missing then
abbrev pub and_goes : Progress → Progress → Progress
and_goes progress.Proceeds rest = rest
and_goes (progress.Over lack) rest = progress.Over lack

abbrev pub and_course : LogResult → ℕ → Progress → Progress
and_course reception packet rest = and_goes (course_behind reception packet) rest

abbrev pub course_of : {A : Type 0} → (A → LogResult) → (A → ℕ) → List A → Progress
course_of processes_input packet [] = progress.Proceeds
course_of processes_input packet (x ∷ xs) = and_course (processes_input x) (packet x) (course_of processes_input packet xs)

-- by the entries of the definition
abbrev pub hears_entry : ℕ → Entry → LogResult
hears_entry most e = processed_as most e.emitted

abbrev pub entries_logged : ℕ → List Entry → List Entry
entries_logged most es = logged (hears_entry most) es

abbrev pub course_by : ℕ → List Entry → Progress
course_by most es = course_of (hears_entry most) (λ e. e.packet) es

-- ---- when

-- the packets that reset a connection and acknowledge nothing
abbrev pub bare_if : Bool → ℕ → List ℕ
bare_if true packet = packet ∷ []
bare_if false packet = []

abbrev pub bare_of : Seen → List ℕ
bare_of s = bare_if (s.reset && is_none s.acknowledged) s.packet

abbrev pub bare_resets : List Seen → List ℕ
bare_resets ss = flat_map bare_of ss

abbrev pub is_among : List ℕ → ℕ → Bool
is_among ns n = list_any (λ m. nat_eq m n) ns

-- where such a packet ends it, nobody knows when the other end had it
abbrev pub moment_of : ConnectionEvent → Bool → ℕ → ℕ
moment_of up bare time = time
moment_of (message d octets) bare time = time
moment_of down bare time = if bare then 0 else time

-- the time of an entry: that of its packet, or of the entry before, where that is later
abbrev pub clock_by : (ℕ → ℕ) → List ℕ → ℕ → Entry → ℕ
clock_by time bare before e = max before (moment_of e.emitted (is_among bare e.packet) (time e.packet))

-- ---- the log of an end

abbrev pub EventIs : Side → ConnectionEvent → LogEvent → Type 0
EventIs side up event = event ≡ logs_event.Up
EventIs side (message d octets) event = (frame : Frame) × (drop 4 octets ≡ message_octets frame) × (event ≡ event_of side (side_of d) frame)
EventIs side down event = event ≡ logs_event.Down

-- an entry behind a comment that names its packet
pub record EntryIs (time : ℕ) (side : Side) (e : Entry) (note : Note) : Type 0 where
  pub logs : LogEntry
  pub remark_is : note.remark ≡ remark.Packet e.packet
  pub there : note.entry ≡ Some logs
  pub time_is : logs.time ≡ time
  pub event_is : EventIs side e.emitted logs.event

-- one for each that is told, behind an entry of one time, up to that of another one
abbrev pub AreEntries : (ℕ → Entry → ℕ) → Side → ℕ → List Entry → List Note → ℕ → Type 0
AreEntries clock side before [] notes last = (notes ≡ []) × (last ≡ before)
AreEntries clock side before (e ∷ es) notes last =
    (note : Note) × (rest : List Note) × (notes ≡ note ∷ rest) × EntryIs (clock before e) side e note
    × AreEntries clock side (clock before e) es rest last

-- where a later connection of the same ends replaces it, it goes down at the time of the entry before
abbrev pub replaced_at : Bool → ℕ → List Note
replaced_at true time = note_of remark.Replaced time logs_event.Down ∷ []
replaced_at false time = []

-- what is said of the log of an end: the verdict of the audit, with the packet of the line that fails, where something is
-- told of the connection
abbrev pub JudgedIf : Bool → Parameters → (ℕ → Entry → ℕ) → Side → List Entry → Bool → Option Checked → Type 0
JudgedIf false settings clock side es replaced check_result = check_result ≡ None
JudgedIf true settings clock side es replaced check_result =
    (says : Checked) × (notes : List Note) × (last : ℕ) × (check_result ≡ Some says) × AreEntries clock side 0 es notes last
    × SaysOf settings (notes ++ replaced_at replaced last) says

-- ---- what is told of a connection

-- what it lacks: nothing, where it went down before
abbrev pub lack_by : Progress → Ending → Option Shortfall → Option Shortfall
lack_by progress.Proceeds ending missing = lack_behind ending missing
lack_by (progress.Over lack) ending missing = lack

-- it goes down since it is replaced, where it is open still, and lacks nothing
abbrev pub is_replaced_by : Bool → Progress → Option Shortfall → Bool
is_replaced_by replaced progress.Proceeds lack = replaced && is_none lack
is_replaced_by replaced (progress.Over other) lack = false

abbrev pub is_up : ConnectionEvent → Bool
is_up up = true
is_up (message d octets) = false
is_up down = false

abbrev pub came_up : List Entry → Bool
came_up es = list_any (λ e. is_up e.emitted) es

abbrev pub is_there : {A : Type 0} → List A → Bool
is_there [] = false
is_there (x ∷ xs) = true

-- what the lines of both ends say
pub record Shown (a p : Parameters) (ends : Pair) (clock : ℕ → Entry → ℕ) (es : List Entry) (replaced : Bool) (lack : Option Shortfall) (says : LogOutputState) : Type 0 where
  pub ends_are : says.pair ≡ ends
  pub lack_is : says.shortfall ≡ lack
  pub active_is : JudgedIf (is_there es) a clock side.Active (entries_logged a.max es) replaced says.active
  pub passive_is : JudgedIf (is_there es) p clock side.Passive (entries_logged a.max es) replaced says.passive

-- one that never came up, and lacks nothing, isn't told
abbrev pub TellsIf : Bool → (LogOutputState → Type 0) → Report → Report → Type 0
TellsIf false says old new = new ≡ old
TellsIf true says old new = (one : LogOutputState) × says one × HasEmitted (one ∷ []) old new

abbrev pub TellsOf : Parameters → Parameters → Pair → (ℕ → Entry → ℕ) → List Entry → Bool → Option Shortfall → Report → Report → Type 0
TellsOf a p ends clock es replaced lack old new =
    TellsIf (came_up (entries_logged a.max es) || is_some lack) (Shown a p ends clock es (is_replaced_by replaced (course_by a.max es) lack) lack) old new

-- what is told of a connection of which these are all segments, where something may be missing behind them
abbrev pub clock_of : (End → ℕ) → List Seen → ℕ → Entry → ℕ
clock_of base seen = clock_by (time_at (places base [] seen)) (bare_resets seen)

unfoldable pub ToldOf : Parameters → Parameters → Pair → (End → ℕ) → List Seen → Bool → Option Shortfall → Report → Report → Type 0
ToldOf a p ends base seen replaced missing old new =
    (let es = emits (places base [] seen) in
    TellsOf a p ends (clock_of base seen) es replaced (lack_by (course_by a.max es) (ended (places base [] seen)) missing) old new)

-- all is told of it, whichever segments follow, whether a later connection replaces it, and whatever may be missing
abbrev pub ToldForGood : Parameters → Parameters → Pair → (End → ℕ) → List Seen → Report → Report → Type 0
ToldForGood a p ends base seen old new =
    (later : List Seen) (replaced : Bool) (missing : Option Shortfall) → AreNumbered 0 (seen ++ later)
    → ToldOf a p ends base (seen ++ later) replaced missing old new
