-- What only contracts of private functions use, besides the definitions of `ActionSteps`.
use Rattle.std.specs.Prelude.{◌≡◌, ℕ, List, [], ◌∷◌, ◌++◌, None}
use Rattle.hsms_frame.specs.Frame.{Frame}
use Rattle.hsms_machine.specs.declared.entry.Entry.{Entry}
use Rattle.hsms_machine.specs.declared.entry.Event.{Event}
use Rattle.hsms_machine.specs.Rule.{Breaks, IsFirst, all_rules}
use Rattle.hsms_machine.specs.ViewRules.{facts_of}
use Rattle.hsms_endpoint.specs.declared.state.State.{State}
use Rattle.hsms_endpoint.specs.Action.{Act, Acts, logs, asks}
use Rattle.hsms_endpoint.specs.InnerInternals.{known, entry_of, after_event, after_number}
use Rattle.hsms_endpoint.specs.End.{Extends}

-- Holds if the event breaks no rule at the endpoint's current time.
unfoldable pub IsValidEvent : State → Event → Type 0
IsValidEvent end event = IsFirst (Breaks (facts_of end.tracker) end.tracker.settings (entry_of end event)) all_rules None

pub record Performs (end : State) (before : List Entry) (acts : List Act) (end' : State) (entries : List Entry) : Type 0 where
  pub new : List Entry
  pub added : entries ≡ before ++ new
  pub done : Acts (known end) acts new (known end')
  pub run : Extends end.tracker new end'.tracker

-- Holds if this event was logged.
pub record HasLogged (end : State) (before : List Entry) (event : Event) (end' : State) (entries : List Entry) : Type 0 where
  pub does : Performs end before (logs event ∷ []) end' entries
  pub after : end' ≡ after_event end event

-- Holds if this frame was sent with these system bytes, by an act that requests them.
pub record HasAsked (end : State) (before : List Entry) (frame : Frame) (number : ℕ) (end' : State) (entries : List Entry) : Type 0 where
  pub does : (asked : ℕ → Frame) → asked number ≡ frame → Performs end before (asks asked ∷ []) end' entries
  pub after : end' ≡ after_number end frame number
