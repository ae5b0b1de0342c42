-- What both ends log of a session that was running before its capture, item by item: what is supposed, what is left out,
-- and what happens.
use Rattle.std.specs.Prelude.{◌≡◌, ◌++◌, ◌∷◌, max, ℕ, List, [], Option, Some, None, Box}
use Rattle.std.specs.declared.alloc.Global.{Global}
use Rattle.hsms_frame.specs.declared.header.Header.{Header}
use Rattle.hsms_frame.specs.Frame.{Frame}
use Rattle.hsms_machine.specs.Settings.{Parameters}
use Rattle.hsms_machine.specs.declared.entry.Event.TheVariants as logs_event
use Rattle.capture_tcp.specs.declared.packet.Side.{Side}
use Rattle.capture_tcp.specs.declared.packet.Side.TheVariants as side
use Rattle.capture_tcp.specs.declared.events.TimedEvent.{TimedEvent}
use Rattle.capture_log.specs.AuditedLog.{HasLogged, Note, note_text}
use Rattle.capture_log.specs.BothLogs.{Records, event_of, note_of, remark_alone}
use Rattle.capture_log.specs.WrittenLog.{MayBeAssumed, MayHappen, begun_by, came_up as begins, front_by, front_of, went_down}
use Rattle.capture_log.specs.declared.audited_log.LogComment.TheVariants as remark
use Rattle.capture_log.specs.declared.both_logs.BothLogs.{BothLogs}
use Rattle.capture_log.specs.declared.written_log.Begun.{Begun}
use Rattle.capture_log.specs.declared.written_log.WrittenLog.{WrittenLog}
use Rattle.capture_log.specs.declared.socket_pair.Pair.{Pair}
use Rattle.cli_capture.specs.declared.progress.Progress.{Progress}
use Rattle.cli_capture.specs.declared.report.OutputMode.TheVariants.{Log}
use Rattle.cli_capture.specs.declared.report.Report.{Report}
use Rattle.cli_capture.specs.LogOutput.{OnPage, Page, page_of}

-- it is supposed that the connection came up at a time, or that an end sent a control message; a message is left out;
-- something happens that has an entry; or it goes down since another connection replaces it
pub data Item : Type 0 where
  comes_up : ℕ → Item
  supposes : Side → Header → Item
  leaves_out : ℕ → Item
  emits : TimedEvent → Item
  closes_down : Item

-- ---- the log of an end

-- a message without a text
abbrev pub bare_frame : Header → Frame
bare_frame header = record { header = header; text = [] }

-- behind an entry of one time
abbrev pub IsNote : ℕ → Side → Item → Note → Type 0
IsNote before side (comes_up time) note = note ≡ note_of remark.Assumption (max before time) logs_event.Up
IsNote before side (supposes from header) note = note ≡ note_of remark.Assumption before (event_of side from (bare_frame header))
IsNote before side (leaves_out packet) note = note ≡ remark_alone (remark.LeftOut packet)
IsNote before side (emits h) note = Records before side h note
IsNote before side closes_down note = note ≡ note_of remark.Replaced before logs_event.Down

abbrev pub time_behind : ℕ → Item → ℕ
time_behind before (comes_up time) = max before time
time_behind before (supposes from header) = before
time_behind before (leaves_out packet) = before
time_behind before (emits h) = max before h.time
time_behind before closes_down = before

-- one for each, up to an entry of another time
abbrev pub AreItems : Side → ℕ → List Item → List Note → ℕ → Type 0
AreItems side before [] notes last = (notes ≡ []) × (last ≡ before)
AreItems side before (x ∷ xs) notes last =
    (note : Note) × (rest : List Note) × (notes ≡ note ∷ rest) × IsNote before side x note × AreItems side (time_behind before x) xs rest last

-- ---- the logs of both ends

pub record HaveItems (a p : Parameters) (xs : List Item) (last : ℕ) (ends : BothLogs) : Type 0 where
  pub most : ends.max ≡ a.max
  pub notes_a : List Note
  pub notes_p : List Note
  pub logged_a : HasLogged a notes_a ends.active
  pub logged_p : HasLogged p notes_p ends.passive
  pub are_a : AreItems side.Active 0 xs notes_a last
  pub are_p : AreItems side.Passive 0 xs notes_p last

-- more may follow; there may be no logs where they have nothing
abbrev pub EndsHaveItems : Parameters → Parameters → List Item → Option (Box BothLogs Global) → Type 0
EndsHaveItems a p xs None = xs ≡ []
EndsHaveItems a p xs (Some box) = HaveItems a p xs box.value.time box.value

-- ---- the page with the log of one end

-- the first connection that comes up begins the log
abbrev pub front_at : Option Begun → Parameters → Item → List ℕ
front_at begun settings (comes_up time) = front_of begun settings
front_at begun settings (supposes from header) = []
front_at begun settings (leaves_out packet) = []
front_at begun settings (emits h) = front_by begun settings h.event
front_at begun settings closes_down = []

abbrev pub begun_at : Option Begun → Pair → Item → Option Begun
begun_at begun pair (comes_up time) = begins pair
begun_at begun pair (supposes from header) = begun
begun_at begun pair (leaves_out packet) = begun
begun_at begun pair (emits h) = begun_by begun pair h.event
begun_at begun pair closes_down = went_down begun

-- behind an entry of one time
abbrev pub MayBeLogged : Option Begun → ℕ → Pair → Item → Type 0
MayBeLogged begun before pair (comes_up time) = MayBeAssumed begun pair before time
MayBeLogged begun before pair (supposes from header) = Unit {0}
MayBeLogged begun before pair (leaves_out packet) = Unit {0}
MayBeLogged begun before pair (emits h) = MayHappen begun pair h.event
MayBeLogged begun before pair closes_down = Unit {0}

abbrev pub with_item : Parameters → Pair → Page → Item → Note → Page
with_item settings pair old x note = record {
  begun = begun_at old.begun pair x;
  time = time_behind old.time x;
  text = (old.text ++ front_at old.begun settings x) ++ note_text note;
}

abbrev pub ItemsOn : Parameters → Side → Pair → List Item → Page → Page → Type 0
ItemsOn settings side pair [] old new = new ≡ old
ItemsOn settings side pair (x ∷ xs) old new =
    MayBeLogged old.begun old.time pair x × (note : Note) × IsNote old.time side x note × ItemsOn settings side pair xs (with_item settings pair old x note) new

-- the page gets them, and nothing else changes
pub record LogsItems (pair : Pair) (c : Progress) (xs : List Item) (j : WrittenLog) (old new : Report) : Type 0 where
  pub next : WrittenLog
  pub manner_is : new.manner ≡ Log next
  pub settings_are : next.settings ≡ j.settings
  pub side_is : next.side ≡ j.side
  pub on : OnPage c (ItemsOn j.settings j.side pair xs) (page_of j old) (page_of next new)
  pub same : new ≡ record old { manner = new.manner; page = new.page }
