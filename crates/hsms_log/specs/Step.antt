-- A step, and its entry.
use Rattle.std.specs.Prelude.{ℕ, List}
use Rattle.hsms_machine.specs.declared.entry.Entry.{Entry}
use Rattle.hsms_machine.specs.declared.entry.Event.{Event}
use Rattle.hsms_machine.specs.declared.entry.Event.TheVariants as event
use Rattle.hsms_machine.specs.Entry.{frame_event}
use Rattle.hsms_log.specs.declared.step.Step.{Step}
use Rattle.hsms_log.specs.declared.step.What.{What}
use Rattle.hsms_log.specs.declared.step.What.TheVariants.{Up, Frame, T3, Cut, Down}

-- The event, with the text of its frame.
abbrev pub event_of : What → List ℕ → Event
event_of (Frame mark header) text = frame_event mark (record { header = header; text = text })
event_of Up text = event.Up
event_of (T3 system) text = event.T3 system
event_of (Cut cause) text = event.Cut cause
event_of Down text = event.Down

-- The entry of an event at a time, with the text of its frame.
abbrev pub entry_of_what : ℕ → What → List ℕ → Entry
entry_of_what time what text = record { time = time; event = event_of what text }

-- The entry of a step, with the text of its frame.
abbrev pub entry_by : Step → List ℕ → Entry
entry_by step text = entry_of_what step.time step.what text
