-- What each input does to an endpoint (SEMI E37, sections 6 to 10: connection, select, separate, timers; this
-- project's profile). All new entries are at the endpoint's current time.
use Rattle.std.specs.Prelude.{◌≡◌, ℕ, ◌-◌, max, Bool, true, false, ◌&&◌, ◌==◌, List, [], ◌∷◌, ◌++◌, map, filter, nat_lt, Option, Some, None, Ok, Err, if◌then◌else◌}
use Rattle.std.specs.List.{list_any}
use Rattle.secs_item.specs.Item.{Value}
use Rattle.secs_item.specs.Encoding.{IsTextOf}
use Rattle.secs_text.specs.Content.{Content}
use Rattle.hsms_frame.specs.declared.header.Header.{Header}
use Rattle.hsms_frame.specs.Frame.{Frame}
use Rattle.hsms_frame.specs.declared.fault.FrameFault.TheVariants.{TooShort, TooLong}
use Rattle.hsms_frame.specs.declared.kinds.Kind.{Kind}
use Rattle.hsms_frame.specs.declared.kinds.Kind.TheVariants.{Primary}
use Rattle.hsms_frame.specs.Header.{kind_of}
use Rattle.hsms_frame.specs.Framing.{FramesAs}
use Rattle.hsms_machine.specs.declared.entry.Entry.{Entry}
use Rattle.hsms_machine.specs.declared.entry.Event.{Event}
use Rattle.hsms_machine.specs.declared.entry.Event.TheVariants.{Up, Taken, Discarded, T3, Cut, Down}
use Rattle.hsms_machine.specs.declared.entry.Cause.{Cause}
use Rattle.hsms_machine.specs.declared.entry.Cause.TheVariants.{T6, T7, T8, Length}
use Rattle.hsms_machine.specs.declared.phase.Phase.{Phase}
use Rattle.hsms_machine.specs.declared.phase.Phase.TheVariants.{NotSelected, Selected}
use Rattle.hsms_machine.specs.declared.settings.Side.{Side}
use Rattle.hsms_machine.specs.declared.settings.Side.TheVariants.{Active, Passive}
use Rattle.hsms_machine.specs.declared.open_transactions.Transaction.{Transaction}
use Rattle.hsms_machine.specs.declared.direction.Flow.TheVariants.{Incoming}
use Rattle.hsms_machine.specs.declared.rule.Rule.{Rule}
use Rattle.hsms_machine.specs.declared.view.View.{View}
use Rattle.hsms_machine.specs.Settings.{Parameters}
use Rattle.hsms_machine.specs.Rule.{FrameBreaks, IsFirst, format_rules, transaction_rules}
use Rattle.hsms_machine.specs.ViewRules.{facts_of, is_selected}
use Rattle.hsms_endpoint.specs.EndState.{EndState}
use Rattle.hsms_endpoint.specs.Answer.{Answered}
use Rattle.hsms_endpoint.specs.PrimaryCounts.{name_in, times, once_more}
use Rattle.hsms_endpoint.specs.Frame.{select_req, linktest_req, separate_req, message_frame, message_of, warning, fitting_text}
use Rattle.hsms_endpoint.specs.Action.{Act, logs, asks, Acts}
use Rattle.hsms_endpoint.specs.Reaction.{reaction, warns, is_equipment}

-- True if the connection is up.
abbrev pub is_up : Phase → Bool
is_up NotSelected = true
is_up Selected = true
is_up _ = false

-- ---- start

abbrev pub opening_of : Side → List Act
opening_of Active = logs Up ∷ asks select_req ∷ []
opening_of Passive = logs Up ∷ []

-- ---- tick

-- The own data transactions that have waited for longer than T3, in order of opening.
abbrev pub expired_at : View → ℕ → List Transaction
expired_at view moment =
    filter (λ opened. nat_lt view.settings.t3 (moment - opened.time)) view.sent_data

abbrev pub is_t6_overdue : View → ℕ → Bool
is_t6_overdue view moment = list_any (λ opened. nat_lt view.settings.t6 (moment - opened.time)) view.sent_control

abbrev pub is_unselected : Phase → Bool
is_unselected NotSelected = true
is_unselected _ = false

abbrev pub is_t7_overdue : View → ℕ → Bool
is_t7_overdue view moment = is_unselected view.phase && nat_lt view.settings.t7 (moment - view.up_time)

abbrev pub is_pending : List ℕ → Bool
is_pending [] = false
is_pending (octet ∷ octets) = true

abbrev pub is_t8_overdue : EndState → Bool
is_t8_overdue end = is_pending end.pending && nat_lt end.settings.t8 (end.moment - end.reception)

-- The cause for which the connection is cut at the endpoint's current time, if it is cut.
abbrev pub overdue_cause : EndState → Option Cause
overdue_cause end =
    if is_t6_overdue end.view end.moment then Some T6
    else if is_t7_overdue end.view end.moment then Some T7
    else if is_t8_overdue end then Some T8
    else None

abbrev pub expiry : Transaction → Act
expiry opened = logs (T3 opened.header.system)

-- Equipment reports an expiry by S9F9, with the header of the primary.
abbrev pub expiry_warning : Parameters → Transaction → Act
expiry_warning settings opened = asks (warning settings 9 opened.header)

abbrev pub cut_by : Cause → List Act
cut_by cause = logs (Cut cause) ∷ logs Down ∷ []

-- The acts after the expiries: a cut, or the warnings of equipment.
abbrev pub after_expiries : Parameters → List Transaction → Option Cause → List Act
after_expiries settings expired (Some cause) = cut_by cause
after_expiries settings expired None =
    if is_equipment settings.role then map (expiry_warning settings) expired else []

-- The acts that are logged at the endpoint's current time because a timer expired.
abbrev pub expiries : EndState → List Act
expiries end =
    let expired = expired_at end.view end.moment in
    map expiry expired ++ after_expiries end.settings expired (overdue_cause end)

-- ---- received frames

-- The first of the rules on frames that the frame breaks if it is accepted as the next entry, or none.
abbrev pub BreaksAsTaken : View → Frame → Option Rule → Type 0
BreaksAsTaken view frame broken =
    IsFirst (FrameBreaks (facts_of view) view.settings Incoming frame) (format_rules ++ transaction_rules) broken

-- A frame that breaks a rule is discarded; any other frame is accepted.
abbrev pub received_as : Frame → Option Rule → Event
received_as frame None = Taken frame
received_as frame (Some rule) = Discarded frame

-- The handler's answer to an accepted primary.
abbrev pub IsAnswerOf : (Content → Answered) → ℕ → Frame → Option Rule → Answered → Type 0
IsAnswerOf desk depth frame broken answer =
    broken ≡ None → kind_of frame.header ≡ Primary
    → (item : Option Value) × IsTextOf depth frame.text item × (answer ≡ desk (message_of frame.header item))

-- The counts after a frame of this kind: an accepted primary is passed to the handler.
abbrev pub asked_with : Kind → Option Rule → ℕ → List (ℕ × ℕ) → List (ℕ × ℕ)
asked_with Primary None name asked = once_more name asked
asked_with _ _ name asked = asked

-- The endpoint after a frame was passed to the handler.
abbrev pub with_asked : EndState → Frame → Option Rule → EndState
with_asked end frame broken =
    record end { asked = asked_with (kind_of frame.header) broken (name_in frame.header) end.asked }

-- The result of a received frame: its entry, and its immediate reaction, with the answer of the handler for the
-- messages that it received before.
abbrev pub Handles : (ℕ → Content → Answered) → EndState → Frame → List Entry → EndState → Type 0
Handles desk end frame entries end' =
    (broken : Option Rule) × (answer : Answered)
    × BreaksAsTaken end.view frame broken
    × IsAnswerOf (desk (times (name_in frame.header) end.asked)) end.settings.depth frame broken answer
    × Acts (with_asked end frame broken)
    (logs (received_as frame broken) ∷ reaction end.settings (is_selected end.view.phase) frame.header broken answer)
    entries end'

-- ---- received bytes

-- S9F11, sent by selected equipment if a message that is too long is data for its device.
abbrev pub warns_too_long : EndState → Header → List Act
warns_too_long end header =
    if is_selected end.view.phase && (header.stype == 0) && (header.ptype == 0) && (header.session == end.settings.device)
    then warns end.settings 11 header else []

-- No further message is at the start of the pending bytes. The connection is no longer up, a message is incomplete,
-- or the bytes are invalid and the connection is cut.
pub data Rests (end : EndState) (entries : List Entry) (end' : EndState) : Type 0 where
  is_down : is_up end.view.phase ≡ false → entries ≡ [] → end' ≡ end → Rests end entries end'
  waits : is_up end.view.phase ≡ true → FramesAs end.settings.max end.pending (Ok None) end.pending
      → entries ≡ [] → end' ≡ end → Rests end entries end'
  too_short : (n : ℕ) → is_up end.view.phase ≡ true
      → FramesAs end.settings.max end.pending (Err (TooShort n)) end.pending
      → Acts end (cut_by Length) entries end' → Rests end entries end'
  too_long : (n : ℕ) (header : Header) → is_up end.view.phase ≡ true
      → FramesAs end.settings.max end.pending (Err (TooLong n header)) end.pending
      → Acts end (warns_too_long end header ++ cut_by Length) entries end' → Rests end entries end'

-- Holds if a message is at the start of the pending bytes of an established connection, and is removed from them.
pub record TakesOff (end : EndState) (frame : Frame) (end' : EndState) : Type 0 where
  pub up : is_up end.view.phase ≡ true
  pub rest : List ℕ
  pub front : FramesAs end.settings.max end.pending (Ok (Some frame)) rest
  pub off : end' ≡ record end { pending = rest }

-- The messages at the start of the pending bytes, one after the other, and the result of each.
abbrev pub Receives : (ℕ → Content → Answered) → EndState → List Frame → List Entry → EndState → Type 0
Receives desk end [] entries end' = Rests end entries end'
Receives desk end (frame ∷ frames) entries end' =
    (off : EndState) × (next : EndState) × (first : List Entry) × (later : List Entry)
    × TakesOff end frame off × Handles desk off frame first next × Receives desk next frames later end'
    × (entries ≡ first ++ later)

-- T8 counts from the time of the last received byte.
abbrev pub processed_at : List ℕ → ℕ → ℕ → ℕ
processed_at octets moment reception = if is_pending octets then moment else reception

-- The endpoint after bytes were received: they are appended to the pending ones.
abbrev pub with_octets : EndState → List ℕ → EndState
with_octets end octets =
    record end { pending = end.pending ++ octets; reception = processed_at octets end.moment end.reception }

-- ---- all inputs

-- An input of an endpoint; a message apart from where its item is in memory.
pub data InputEvent : Type 0 where
  start : ℕ → InputEvent
  tick : ℕ → InputEvent
  bytes : List ℕ → InputEvent
  send : Content → InputEvent
  linktest : InputEvent
  separate : InputEvent
  lost : InputEvent

-- The message is sent with the text of its item: a primary gets own system bytes.
abbrev pub Sends : EndState → Content → List Entry → EndState → Type 0
Sends end message entries end' =
    (text : List ℕ) × (fitting_text end.settings message.item ≡ Some text)
    × Acts end (asks (message_frame end.settings message text) ∷ []) entries end'

-- Holds if the input gives these new entries, and leads from one endpoint state to the other.
abbrev pub Turn : (ℕ → Content → Answered) → EndState → InputEvent → List Entry → EndState → Type 0
Turn desk end (start now) entries end' =
    Acts (record end { moment = max end.moment now }) (opening_of end.settings.link) entries end'
Turn desk end (tick now) entries end' =
    let later = record end { moment = max end.moment now } in Acts later (expiries later) entries end'
Turn desk end (bytes octets) entries end' =
    (frames : List Frame) × Receives desk (with_octets end octets) frames entries end'
Turn desk end (send message) entries end' = Sends end message entries end'
Turn desk end linktest entries end' = Acts end (asks linktest_req ∷ []) entries end'
Turn desk end separate entries end' = Acts end (asks separate_req ∷ logs Down ∷ []) entries end'
Turn desk end lost entries end' = Acts end (logs Down ∷ []) entries end'
