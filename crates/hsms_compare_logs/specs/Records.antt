-- What is kept of the entries of a connection.
use Rattle.std.specs.Prelude.{◌≡◌, ℕ, Bool, List, [], map}
use Rattle.hsms_frame.specs.Frame.{Frame}
use Rattle.hsms_machine.specs.declared.entry.Entry.{Entry}
use Rattle.hsms_machine.specs.declared.entry.Event.{Event}
use Rattle.hsms_machine.specs.declared.entry.Event.TheVariants.{Sent, Taken, Discarded}
use Rattle.hsms_compare.specs.Conversation.{Line}
use Rattle.hsms_compare_causes.specs.declared.connection_log.ConnectionLog.{ConnectionLog}
use Rattle.hsms_compare_repair.specs.Logs.{HasFramesOf}
use Rattle.hsms_compare_logs.specs.declared.log_record.LogRecord.{LogRecord}

-- ---- entries without the texts of their messages

abbrev pub bare_frame : Frame → Frame
bare_frame frame = record { header = frame.header; text = [] }

abbrev pub bare_event : Event → Event
bare_event (Sent frame) = Sent (bare_frame frame)
bare_event (Taken frame) = Taken (bare_frame frame)
bare_event (Discarded frame) = Discarded (bare_frame frame)
bare_event event = event

abbrev pub bare_entry : Entry → Entry
bare_entry entry = record { time = entry.time; event = bare_event entry.event }

-- Holds if these are the entries of a log without texts, and the numbers of its lines.
pub record AreBareEntries (lines : List Line) (entries : List Entry) (numbers : List ℕ) : Type 0 where
  pub entries_so : entries ≡ map (λ (line : Line). bare_entry line.entry) lines
  pub lines_so : numbers ≡ map (λ (line : Line). line.position) lines

-- Holds if they are those of a connection that may have more entries, or not.
pub record IsLogOf (lines : List Line) (more : Bool) (log : ConnectionLog) : Type 0 where
  pub entries : AreBareEntries lines log.entries.items log.lines.items
  pub continued : log.is_open ≡ more

-- Holds if the record is of these entries.
pub record HasRecordOf (lines : List Line) (kept : LogRecord) : Type 0 where
  pub frames : HasFramesOf lines kept.frames
  pub entries : AreBareEntries lines kept.entries.items kept.lines.items
