-- What only contracts of private functions use, besides the definitions of `Internals`.
use Rattle.std.specs.Prelude.{◌≡◌, ℕ, ◌+◌, ◌^◌, ◌%◌, ◌++◌, Bool, true, false, List, max}
use Rattle.hsms_frame.specs.declared.header.Header.{Header}
use Rattle.hsms_frame.specs.Frame.{Frame}
use Rattle.hsms_machine.specs.declared.entry.Entry.{Entry}
use Rattle.hsms_machine.specs.declared.entry.Event.{Event}
use Rattle.hsms_machine.specs.declared.entry.Event.TheVariants.{Sent}
use Rattle.hsms_machine.specs.ViewRules.{view_after}
use Rattle.hsms_endpoint.specs.declared.state.State.{State}
use Rattle.hsms_endpoint.specs.PrimaryCounts.{name_in, once_more}
use Rattle.hsms_endpoint.specs.EndState.{EndState}
use Rattle.hsms_endpoint.specs.declared.fault.EndFault.{EndFault}
use Rattle.hsms_endpoint.specs.declared.fault.EndFault.TheVariants.{Spent, NotUp}
use Rattle.hsms_endpoint.specs.Turn.{processed_at}
use Rattle.hsms_endpoint.specs.Internals.{known_of}

abbrev pub known : State → EndState
known end = known_of end false

-- Holds if a call that needs a connection returns this error at once, by whether the endpoint is spent and whether
-- its connection is up.
abbrev pub IsRefusedAs : Bool → Bool → EndFault → Type 0
IsRefusedAs spent up Spent = spent ≡ true
IsRefusedAs spent up NotUp = (spent ≡ false) × (up ≡ false)
IsRefusedAs spent up fault = ⊥

abbrev pub entry_of : State → Event → Entry
entry_of end event = record { time = end.moment; event = event }

-- The endpoint after an event at its current time.
abbrev pub after_event : State → Event → State
after_event end event = record end { tracker = view_after end.tracker (entry_of end event) }

-- The endpoint after a frame was sent with these system bytes; the next value is one more.
abbrev pub after_number : State → Frame → ℕ → State
after_number end frame number = record (after_event end (Sent frame)) { next = (number + 1) % 2 ^ 32 }

-- The endpoint after bytes were received.
abbrev pub after_octets : State → List ℕ → State
after_octets end octets =
    record end {
      framer = record end.framer { pending = end.framer.pending ++ octets };
      reception = processed_at octets end.moment end.reception;
    }

-- The endpoint after a primary was passed to the handler.
abbrev pub after_asking : State → Header → State
after_asking end header = record end { asked = once_more (name_in header) end.asked }

abbrev pub at_later : State → ℕ → State
at_later end now = record end { moment = max end.moment now }
