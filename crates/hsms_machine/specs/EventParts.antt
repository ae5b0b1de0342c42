-- An event in two parts: the text of its frame, and the rest. Only private functions use these definitions.
use Rattle.std.specs.Prelude.{ℕ, List}
use Rattle.hsms_frame.specs.declared.header.Header.{Header}
use Rattle.hsms_frame.specs.Frame.{Frame}
use Rattle.hsms_machine.specs.declared.entry.Entry.{Entry}
use Rattle.hsms_machine.specs.declared.entry.Event.{Event}
use Rattle.hsms_machine.specs.declared.entry.Event.TheVariants.{Up, Sent, Taken, Discarded, T3, Cut, Down}
use Rattle.hsms_machine.specs.declared.entry.Act.{Act}
use Rattle.hsms_machine.specs.declared.entry.Act.TheVariants.{Up as ActUp, Sent as ActSent, Taken as ActTaken, Discarded as ActDiscarded, T3 as ActT3, Cut as ActCut, Down as ActDown}

-- The frame of a header and a text.
abbrev pub frame_of : Header → List ℕ → Frame
frame_of header text = record { header = header; text = text }

-- The event of both parts.
abbrev pub event_of : Act → List ℕ → Event
event_of ActUp text = Up
event_of (ActSent header) text = Sent (frame_of header text)
event_of (ActTaken header) text = Taken (frame_of header text)
event_of (ActDiscarded header) text = Discarded (frame_of header text)
event_of (ActT3 system) text = T3 system
event_of (ActCut cause) text = Cut cause
event_of ActDown text = Down

-- The entry of both parts.
abbrev pub entry_of : ℕ → Act → List ℕ → Entry
entry_of time act text = record { time = time; event = event_of act text }
