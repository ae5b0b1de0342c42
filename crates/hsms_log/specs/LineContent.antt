-- The content of a line that was read, for contracts.
use Rattle.std.specs.Prelude.{ℕ, List, Option, Some, None}
use Rattle.hsms_machine.specs.declared.entry.Entry.{Entry as LogEntry}
use Rattle.hsms_machine.specs.declared.entry.Event.{Event}
use Rattle.hsms_machine.specs.declared.entry.Event.TheVariants.{Sent, Taken, Discarded}
use Rattle.hsms_log.specs.LineFormat.{EncodesEntry}
use Rattle.hsms_log.specs.declared.reading.Line.{Line}
use Rattle.hsms_log.specs.declared.reading.Line.TheVariants.{Nothing, Entry}

-- The entry of a line.
abbrev pub carried_by : Line → Option LogEntry
carried_by Nothing = None
carried_by (Entry entry) = Some entry

-- Holds if the event is a frame that was sent, accepted or discarded.
abbrev pub HasFrame : Event → Type 0
HasFrame (Sent frame) = Unit {0}
HasFrame (Taken frame) = Unit {0}
HasFrame (Discarded frame) = Unit {0}
HasFrame _ = ⊥

-- Holds if a line contains such an event.
abbrev pub CarriesFrame : Option LogEntry → Type 0
CarriesFrame None = ⊥
CarriesFrame (Some entry) = HasFrame entry.event

-- Holds if the line encodes no entry with a frame.
abbrev pub EncodesNoFrame : List ℕ → Type 0
EncodesNoFrame line = (entry : LogEntry) → EncodesEntry line entry → HasFrame entry.event → ⊥

-- Holds if the line encodes no entry without a frame.
abbrev pub EncodesFramesOnly : List ℕ → Type 0
EncodesFramesOnly line = (entry : LogEntry) → EncodesEntry line entry → HasFrame entry.event
