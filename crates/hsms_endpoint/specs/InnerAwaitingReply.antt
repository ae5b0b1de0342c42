-- An endpoint while it handles a frame: as between calls, but the peer may wait for answers. Only private functions
-- use this.
use Rattle.std.specs.Prelude.{◌≡◌, ◌≤◌, ℕ, ◌+◌, ◌==◌, ◌||◌, Bool, true, false, List, [], ◌∷◌, length, Option, Some, None, option_to_list, if◌then◌else◌}
use Rattle.secs_item.specs.Item.{Value}
use Rattle.secs_item.specs.Encoding.{IsText, IsTextOf}
use Rattle.secs_text.specs.Content.{Content}
use Rattle.hsms_frame.specs.declared.kinds.Kind.{Kind}
use Rattle.hsms_machine.specs.declared.entry.Event.TheVariants.{Taken, Discarded, Sent}
use Rattle.hsms_machine.specs.declared.rule.Rule.{Rule}
use Rattle.hsms_machine.specs.declared.entry.Entry.{Entry}
use Rattle.hsms_endpoint.specs.Action.{Act, logs}
use Rattle.hsms_endpoint.specs.Answer.{Answered, replies}
use Rattle.hsms_endpoint.specs.Frame.{message_of, reply_of, abort_of}
use Rattle.hsms_frame.specs.Frame.{Frame}
use Rattle.hsms_frame.specs.Build.{data_header_of}
use Rattle.hsms_frame.specs.declared.header.Header.{Header}
use Rattle.hsms_frame.specs.declared.kinds.Kind.TheVariants.{Primary, SelectReq, LinktestReq, Separate}
use Rattle.hsms_frame.specs.Header.{kind_of, stream_of, wait_of}
use Rattle.hsms_machine.specs.declared.phase.Phase.TheVariants.{Selected}
use Rattle.hsms_machine.specs.declared.settings.Side.TheVariants.{Passive}
use Rattle.hsms_machine.specs.Message.{is_data_request}
use Rattle.hsms_machine.specs.ViewRules.{is_selected}
use Rattle.hsms_machine.specs.declared.entry.Event.{Event}
use Rattle.hsms_machine.specs.declared.open_transactions.Transaction.{Transaction}
use Rattle.hsms_machine.specs.Entry.{is_up as is_up_event, is_down as is_down_event}
use Rattle.hsms_machine.specs.Session.{ends_session}
use Rattle.hsms_machine.specs.Settings.{Parameters, IsWithinLimits}
use Rattle.hsms_machine.specs.Transaction.{SentData, SentControl, opened_as_at, opened_by}
use Rattle.hsms_machine.specs.View.{own_open_of}
use Rattle.hsms_endpoint.specs.declared.state.State.{State}
use Rattle.hsms_endpoint.specs.Turn.{is_up, is_unselected, BreaksAsTaken}
use Rattle.hsms_endpoint.specs.ActionSteps.{IsCalm}
use Rattle.hsms_endpoint.specs.InnerActionSteps.{IsValidEvent, Performs}

-- Holds if the connection is up, nothing is overdue, and the peer waits for answers to these requests.
pub record PeerAwaits (end : State) (primaries controls : List Transaction) : Type 0 where
  pub settings : end.settings ≡ end.tracker.settings
  pub within : IsWithinLimits end.settings
  pub limit : end.framer.max ≡ end.settings.max
  pub up : is_up end.tracker.phase ≡ true
  pub calm : IsCalm end
  pub taken_data : end.tracker.taken_data ≡ primaries
  pub taken_control : end.tracker.taken_control ≡ controls
  pub few : own_open_of end.tracker ≤ 64
  pub unselected : is_unselected end.tracker.phase ≡ true → end.tracker.sent_data ≡ []

-- Holds for an event at this time that neither ends anything nor opens an own transaction.
pub record IsMild (moment : ℕ) (event : Event) : Type 0 where
  pub not_up : is_up_event event ≡ false
  pub not_down : is_down_event event ≡ false
  pub can_continue : ends_session event ≡ false
  pub no_data : opened_as_at SentData moment event ≡ None
  pub no_control : opened_as_at SentControl moment event ≡ None

-- The parts of an endpoint that sending does not change.
pub record IsSame (end end' : State) : Type 0 where
  pub settings : end'.settings ≡ end.settings
  pub framer : end'.framer ≡ end.framer
  pub phase : end'.tracker.phase ≡ end.tracker.phase

-- Holds if these acts were done, the peer waits for nothing, and the pending bytes are unchanged.
pub record Settles (end : State) (before : List Entry) (acts : List Act) (end' : State) (entries : List Entry) : Type 0 where
  pub does : Performs end before acts end' entries
  pub awaits : PeerAwaits end' [] []
  pub framer : end'.framer ≡ end.framer

-- Holds if these acts were done, and the peer waits for the same requests as before.
pub record Interjects (end : State) (before : List Entry) (acts : List Act) (end' : State) (entries : List Entry) : Type 0 where
  pub does : Performs end before acts end' entries
  pub awaits : (primaries controls : List Transaction) → PeerAwaits end primaries controls → PeerAwaits end' primaries controls
  pub same : IsSame end end'

-- The reply to a primary by the handler's answer, if the primary requests a reply.
abbrev pub reply_by : Parameters → Header → Answered → Frame
reply_by settings primary (replies item) = reply_of settings primary item
reply_by settings primary _ = abort_of settings primary

abbrev pub replies_by : Parameters → Header → Answered → List Act
replies_by settings primary answer =
    if wait_of primary then logs (Sent (reply_by settings primary answer)) ∷ [] else []

-- Holds if the peer waits for an answer to this Select.req, and for nothing else.
pub record IsAskedToSelect (end : State) (header : Header) (selected : Bool) : Type 0 where
  pub time : ℕ
  pub awaits : PeerAwaits end [] (record { time = time; header = header } ∷ [])
  pub kind : kind_of header ≡ SelectReq
  pub passive : end.settings.link ≡ Passive
  pub before : is_selected end.tracker.phase ≡ selected

-- Holds if the peer waits for an answer to this Linktest.req, and for nothing else.
pub record IsAskedForLink (end : State) (header : Header) : Type 0 where
  pub time : ℕ
  pub awaits : PeerAwaits end [] (record { time = time; header = header } ∷ [])
  pub kind : kind_of header ≡ LinktestReq

-- Holds if this primary was accepted. The peer waits for an answer to it if it has the W bit, and for nothing else.
pub record IsAsked (end : State) (header : Header) : Type 0 where
  pub time : ℕ
  pub awaits : PeerAwaits end (option_to_list (opened_by is_data_request time header)) []
  pub kind : kind_of header ≡ Primary
  pub selected : end.tracker.phase ≡ Selected

-- The parts of a frame that make it a reply to the primary.
pub record IsReplyTo (settings : Parameters) (primary : Header) (frame : Frame) : Type 0 where
  pub function : ℕ
  pub either : ((function == 0) || (function == primary.byte3 + 1)) ≡ true
  pub header : frame.header ≡ data_header_of settings.device (stream_of primary) function false primary.system
  pub size : 10 + length frame.text ≤ settings.max
  pub text : IsText settings.depth frame.text

-- True if a message of this kind is accepted without a reaction.
abbrev pub is_silent : Kind → Bool
is_silent Primary = false
is_silent SelectReq = false
is_silent LinktestReq = false
is_silent Separate = false
is_silent _ = true

-- Holds if the answer is the handler's answer to the message that the frame encodes.
abbrev pub IsAnsweredBy : (Content → Answered) → ℕ → Frame → Answered → Type 0
IsAnsweredBy desk depth frame answer = (item : Option Value) × IsTextOf depth frame.text item × (answer ≡ desk (message_of frame.header item))

-- Holds if the frame may be accepted next.
pub record CanTake (end : State) (frame : Frame) : Type 0 where
  pub awaits : PeerAwaits end [] []
  pub is_valid : IsValidEvent end (Taken frame)
  pub broken : BreaksAsTaken end.tracker frame None

-- Holds if the frame may be discarded next, since it would break this rule if it were accepted.
pub record CanDiscard (end : State) (frame : Frame) (rule : Rule) : Type 0 where
  pub awaits : PeerAwaits end [] []
  pub is_valid : IsValidEvent end (Discarded frame)
  pub broken : BreaksAsTaken end.tracker frame (Some rule)
