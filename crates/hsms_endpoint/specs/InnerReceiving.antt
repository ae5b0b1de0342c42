-- What a part of the call `bytes` has done. Only private functions use this.
use Rattle.std.specs.Prelude.{◌≡◌, ℕ, List, ◌++◌}
use Rattle.secs_text.specs.Content.{Content}
use Rattle.hsms_frame.specs.Frame.{Frame}
use Rattle.hsms_machine.specs.declared.entry.Entry.{Entry}
use Rattle.hsms_endpoint.specs.declared.state.State.{State}
use Rattle.hsms_endpoint.specs.EndState.{EndState}
use Rattle.hsms_endpoint.specs.InnerInternals.{known}
use Rattle.hsms_endpoint.specs.Answer.{Answered}
use Rattle.hsms_endpoint.specs.Turn.{Handles, Receives}
use Rattle.hsms_endpoint.specs.End.{Extends}
use Rattle.hsms_endpoint.specs.Invariant.{IsSound}

-- Holds if a frame was handled: its entry and its reaction are appended to the entries of the call.
pub record HasHandled (desk : ℕ → Content → Answered) (end : State) (before : List Entry) (frame : Frame) (end' : State) (entries : List Entry) : Type 0 where
  pub new : List Entry
  pub added : entries ≡ before ++ new
  pub handled : Handles desk (known end) frame new (known end')
  pub run : Extends end.tracker new end'.tracker
  pub sound : IsSound end'
  pub framer : end'.framer ≡ end.framer

-- The messages that were received so far. Any outcome of the messages after them is an outcome of all of them.
pub record HasReceived (desk : ℕ → Content → Answered) (end : State) (before : List Entry) (end' : State) (entries : List Entry) : Type 0 where
  pub new : List Entry
  pub added : entries ≡ before ++ new
  pub onward : (frames : List Frame) (later : List Entry) (end'' : EndState) → Receives desk (known end') frames later end''
      → (all : List Frame) × Receives desk (known end) all (new ++ later) end''
  pub run : Extends end.tracker new end'.tracker
  pub sound : IsSound end'

-- Holds if all messages at the start of the pending bytes were received.
pub record HasReceivedAll (desk : ℕ → Content → Answered) (end : State) (before : List Entry) (end' : State) (entries : List Entry) : Type 0 where
  pub new : List Entry
  pub added : entries ≡ before ++ new
  pub frames : List Frame
  pub received : Receives desk (known end) frames new (known end')
  pub run : Extends end.tracker new end'.tracker
  pub sound : IsSound end'
