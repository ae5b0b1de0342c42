-- Tests of the events that a trace looks for.
use Rattle.std.specs.Prelude.{◌&&◌, ◌||◌, not, Bool, true, false, Option, Some, None}
use Rattle.hsms_frame.specs.Header.{kind_of}
use Rattle.hsms_frame.specs.declared.header.Header.{Header}
use Rattle.hsms_machine.specs.declared.entry.Cause.{Cause}
use Rattle.hsms_machine.specs.declared.entry.Cause.TheVariants.{T6}
use Rattle.hsms_machine.specs.declared.entry.Event.{Event}
use Rattle.hsms_machine.specs.declared.entry.Event.TheVariants.{Sent, Taken, Discarded, Cut}
use Rattle.hsms_machine.specs.Entry.{is_down}
use Rattle.hsms_machine.specs.Message.{is_reject_kind, is_request}
use Rattle.hsms_machine.specs.Session.{ends_session}
use Rattle.hsms_machine.specs.Transaction.{concludes}

abbrev pub request_if : Header → Bool → Option Header
request_if header true = Some header
request_if header false = None

-- The header of the request that an event sends.
abbrev pub request_of : Event → Option Header
request_of (Sent frame) = request_if frame.header (is_request frame.header)
request_of event = None

-- True if the message, sent in the other direction, answers the request: it ends the transaction, and is no Reject.
abbrev pub is_answer : Header → Header → Bool
is_answer request other = concludes request other && not (is_reject_kind (kind_of other))

-- True if the event receives an answer to the request.
abbrev pub answers_by : Header → Event → Bool
answers_by request (Taken frame) = is_answer request frame.header
answers_by request (Discarded frame) = is_answer request frame.header
answers_by request event = false

-- True if the event ends the session or the connection.
abbrev pub ends_connection : Event → Bool
ends_connection event = ends_session event || is_down event

abbrev pub is_t6 : Cause → Bool
is_t6 T6 = true
is_t6 cause = false

abbrev pub is_cut_by_t6 : Event → Bool
is_cut_by_t6 (Cut cause) = is_t6 cause
is_cut_by_t6 event = false

-- True if the event sends a frame.
abbrev pub is_sent : Event → Bool
is_sent (Sent frame) = true
is_sent event = false

-- True if the event receives a frame.
abbrev pub is_received : Event → Bool
is_received (Taken frame) = true
is_received (Discarded frame) = true
is_received event = false

abbrev pub is_discarded : Event → Bool
is_discarded (Discarded frame) = true
is_discarded event = false
