-- What an endpoint does at one time: consecutive entries of its log (project-specific).
use Rattle.std.specs.Prelude.{◌≡◌, ℕ, ◌+◌, ◌^◌, ◌%◌, List, [], ◌∷◌}
use Rattle.hsms_frame.specs.Frame.{Frame}
use Rattle.hsms_machine.specs.declared.entry.Entry.{Entry}
use Rattle.hsms_machine.specs.declared.entry.Event.{Event}
use Rattle.hsms_machine.specs.declared.entry.Event.TheVariants.{Sent}
use Rattle.hsms_machine.specs.ViewRules.{view_after}
use Rattle.hsms_endpoint.specs.EndState.{EndState}
use Rattle.hsms_endpoint.specs.SystemBytes.{IsFirstFree}

-- One act logs one entry: an event as it is, or a frame that is sent with own system bytes.
pub data Act : Type 0 where
  logs : Event → Act
  asks : (ℕ → Frame) → Act

-- An event at the endpoint's current time.
abbrev pub entry_now : EndState → Event → Entry
entry_now end event = record { time = end.moment; event = event }

-- The endpoint after an event at its current time.
abbrev pub with_event : EndState → Event → EndState
with_event end event = record end { view = view_after end.view (entry_now end event) }

-- The endpoint after a frame was sent with these system bytes; the next value is one more.
abbrev pub with_number : EndState → Frame → ℕ → EndState
with_number end frame number = record (with_event end (Sent frame)) { next = (number + 1) % 2 ^ 32 }

-- Holds if the acts, in order, give these entries and lead from one endpoint state to the other.
abbrev pub Acts : EndState → List Act → List Entry → EndState → Type 0
Acts end [] entries end' = (entries ≡ []) × (end' ≡ end)
Acts end (logs event ∷ acts) entries end' =
    (later : List Entry) × (entries ≡ entry_now end event ∷ later) × Acts (with_event end event) acts later end'
Acts end (asks frame ∷ acts) entries end' =
    (number : ℕ) × (later : List Entry) × IsFirstFree end.view end.next number
    × (entries ≡ entry_now end (Sent (frame number)) ∷ later)
    × Acts (with_number end (frame number) number) acts later end'
