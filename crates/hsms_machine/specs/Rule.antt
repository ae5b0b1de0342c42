-- The rules of a session log, each stated once over the facts before an entry (this project's profile of SEMI E37 and
-- E37.1; an item as in SEMI E5).
use Rattle.std.specs.Prelude.{◌≡◌, ◌+◌, ◌<◌, ◌==◌, Bool, true, false, ◌⊎◌, ℕ, List, [], ◌∷◌, ◌++◌, Option, Some, None, length, codes, IsTrue}
use Rattle.secs_item.specs.Encoding.{IsText}
use Rattle.hsms_frame.specs.Header.{kind_of}
use Rattle.hsms_frame.specs.declared.header.Header.{Header}
use Rattle.hsms_frame.specs.Frame.{Frame}
use Rattle.hsms_frame.specs.declared.kinds.Kind.TheVariants.{OtherSType, OtherPType}
use Rattle.hsms_machine.specs.declared.entry.Entry.{Entry}
use Rattle.hsms_machine.specs.declared.entry.Event.{Event}
use Rattle.hsms_machine.specs.declared.entry.Event.TheVariants.{Up, Sent, Taken, Discarded, T3, Cut}
use Rattle.hsms_machine.specs.declared.entry.Cause.{Cause}
use Rattle.hsms_machine.specs.declared.entry.Cause.TheVariants.{T6, T7}
use Rattle.hsms_machine.specs.declared.rule.Rule.{Rule}
use Rattle.hsms_machine.specs.declared.rule.Rule.TheVariants.{Backwards, NotUp, Ended, T3Overdue, LinkOverdue, NotDue, TooLong, PType, SType, ControlText, Session, Direction, NotSelected, WBit, Text, SystemInUse, NoTransaction, SelectStatus, NoCause}
use Rattle.hsms_machine.specs.declared.open_transactions.Transaction.{Transaction}
use Rattle.hsms_machine.specs.declared.direction.Flow.{Flow}
use Rattle.hsms_machine.specs.declared.direction.Flow.TheVariants.{Outgoing, Incoming}
use Rattle.hsms_machine.specs.Settings.{Parameters}
use Rattle.hsms_machine.specs.Entry.{is_t3}
use Rattle.hsms_machine.specs.Message.{is_data, is_control, is_response, is_request, establishes, has_right_session, has_right_direction, has_right_wait}
use Rattle.hsms_machine.specs.Transaction.{answers, SentData, SentControl, TakenData, TakenControl}
use Rattle.hsms_machine.specs.Session.{Facts}
use Rattle.hsms_machine.specs.Timer.{IsT3Overdue, IsT6Overdue, IsT7Overdue, IsNotDue}

-- The name of a rule.
abbrev pub rule_name : Rule → List ℕ
rule_name Backwards = codes "Backwards"
rule_name NotUp = codes "NotUp"
rule_name Ended = codes "Ended"
rule_name T3Overdue = codes "T3Overdue"
rule_name LinkOverdue = codes "LinkOverdue"
rule_name NotDue = codes "NotDue"
rule_name TooLong = codes "TooLong"
rule_name PType = codes "PType"
rule_name SType = codes "SType"
rule_name ControlText = codes "ControlText"
rule_name Session = codes "Session"
rule_name Direction = codes "Direction"
rule_name NotSelected = codes "NotSelected"
rule_name WBit = codes "WBit"
rule_name Text = codes "Text"
rule_name SystemInUse = codes "SystemInUse"
rule_name NoTransaction = codes "NoTransaction"
rule_name SelectStatus = codes "SelectStatus"
rule_name NoCause = codes "NoCause"

-- The index of a rule in the order in which the rules are checked, from 0.
abbrev pub rule_number : Rule → ℕ
rule_number Backwards = 0
rule_number NotUp = 1
rule_number Ended = 2
rule_number T3Overdue = 3
rule_number LinkOverdue = 4
rule_number NotDue = 5
rule_number TooLong = 6
rule_number PType = 7
rule_number SType = 8
rule_number ControlText = 9
rule_number Session = 10
rule_number Direction = 11
rule_number NotSelected = 12
rule_number WBit = 13
rule_number Text = 14
rule_number SystemInUse = 15
rule_number NoTransaction = 16
rule_number SelectStatus = 17
rule_number NoCause = 18

-- ---- order

-- Holds for an `up` that is not the first entry and, in version 2, does not directly follow a `down`. Holds for any
-- other entry before the first `up`, or after a `down` without an `up` since.
abbrev pub IsNotUp : Facts → Parameters → Event → Type 0
IsNotUp facts settings Up = facts.HasEntry × ¬ ((settings.version ≡ 2) × facts.FollowsDown)
IsNotUp facts settings _ = ¬ facts.HasUp ⊎ facts.HasDown

-- True for the events that may occur only before the session ends.
abbrev pub needs_session : Event → Bool
needs_session (Sent frame) = true
needs_session (Taken frame) = true
needs_session (T3 system) = true
needs_session (Cut cause) = true
needs_session _ = false

-- ---- expiries

abbrev pub is_link_cut : Cause → Bool
is_link_cut T6 = true
is_link_cut T7 = true
is_link_cut _ = false

-- True for the events that may precede or log an expiry of T6 or T7.
abbrev pub is_expiry : Event → Bool
is_expiry (T3 system) = true
is_expiry (Cut cause) = is_link_cut cause
is_expiry _ = false

-- ---- a frame that is sent or accepted

-- Holds if some open transaction whose request was sent in this direction passes the test.
abbrev pub SomeOpenOf : Facts → Flow → (Transaction → Bool) → Type 0
SomeOpenOf facts Outgoing test = facts.SomeOpen SentData test ⊎ facts.SomeOpen SentControl test
SomeOpenOf facts Incoming test = facts.SomeOpen TakenData test ⊎ facts.SomeOpen TakenControl test

abbrev pub opposite : Flow → Flow
opposite Outgoing = Incoming
opposite Incoming = Outgoing

-- Holds if a transaction whose request was sent in this direction has these system bytes.
abbrev pub IsInUse : Facts → Flow → ℕ → Type 0
IsInUse facts flow system = SomeOpenOf facts flow (λ opened. opened.header.system == system)

-- Holds if the message answers an open transaction of the other direction.
abbrev pub IsAnswer : Facts → Flow → Header → Type 0
IsAnswer facts flow header = SomeOpenOf facts (opposite flow) (λ opened. answers opened.header header)

-- Holds if a sent or accepted frame breaks the rule. A text is empty, or one item whose encoding is nested within the
-- depth.
abbrev pub FrameBreaks : Facts → Parameters → Flow → Frame → Rule → Type 0
FrameBreaks facts settings flow frame TooLong = settings.max < 10 + length frame.text
FrameBreaks facts settings flow frame PType = kind_of frame.header ≡ OtherPType
FrameBreaks facts settings flow frame SType = kind_of frame.header ≡ OtherSType
FrameBreaks facts settings flow frame ControlText = IsTrue (is_control frame.header) × (0 < length frame.text)
FrameBreaks facts settings flow frame Session = ¬ IsTrue (has_right_session settings frame.header)
FrameBreaks facts settings flow frame Direction = ¬ IsTrue (has_right_direction settings flow frame.header)
FrameBreaks facts settings flow frame NotSelected = IsTrue (is_data frame.header) × ¬ facts.IsSelected
FrameBreaks facts settings flow frame WBit = ¬ IsTrue (has_right_wait frame.header)
FrameBreaks facts settings flow frame Text = IsTrue (is_data frame.header) × ¬ IsText settings.depth frame.text
FrameBreaks facts settings flow frame SystemInUse = IsTrue (is_request frame.header) × IsInUse facts flow frame.header.system
FrameBreaks facts settings flow frame NoTransaction = IsTrue (is_response frame.header) × ¬ IsAnswer facts flow frame.header
FrameBreaks facts settings flow frame SelectStatus = IsTrue (establishes frame.header) × facts.IsSelected
FrameBreaks facts settings flow frame _ = ⊥

-- Holds for a discarded frame, while the session has not ended, that would break no rule as an accepted frame.
abbrev pub IsNoCause : Facts → Parameters → Event → Type 0
IsNoCause facts settings (Discarded frame) =
    ¬ facts.IsOver × ((rule : Rule) → FrameBreaks facts settings Incoming frame rule → ⊥)
IsNoCause facts settings _ = ⊥

abbrev pub EventBreaks : Facts → Parameters → Event → Rule → Type 0
EventBreaks facts settings (Sent frame) rule = FrameBreaks facts settings Outgoing frame rule
EventBreaks facts settings (Taken frame) rule = FrameBreaks facts settings Incoming frame rule
EventBreaks facts settings _ rule = ⊥

-- ---- all rules

-- Holds if the entry breaks the rule, given these facts about the entries before it.
abbrev pub Breaks : Facts → Parameters → Entry → Rule → Type 0
Breaks facts settings entry Backwards = facts.IsPast entry.time
Breaks facts settings entry NotUp = IsNotUp facts settings entry.event
Breaks facts settings entry Ended = IsTrue (needs_session entry.event) × facts.IsOver
Breaks facts settings entry T3Overdue = ¬ IsTrue (is_t3 entry.event) × IsT3Overdue facts settings entry.time
Breaks facts settings entry LinkOverdue =
    ¬ IsTrue (is_expiry entry.event) × (IsT6Overdue facts settings entry.time ⊎ IsT7Overdue facts settings entry.time)
Breaks facts settings entry NotDue = IsNotDue facts settings entry.time entry.event
Breaks facts settings entry NoCause = IsNoCause facts settings entry.event
Breaks facts settings entry rule = EventBreaks facts settings entry.event rule

abbrev pub order_rules : List Rule
order_rules = Backwards ∷ NotUp ∷ Ended ∷ []

abbrev pub timer_rules : List Rule
timer_rules = T3Overdue ∷ LinkOverdue ∷ NotDue ∷ []

abbrev pub format_rules : List Rule
format_rules = TooLong ∷ PType ∷ SType ∷ ControlText ∷ Session ∷ Direction ∷ []

abbrev pub transaction_rules : List Rule
transaction_rules = NotSelected ∷ WBit ∷ Text ∷ SystemInUse ∷ NoTransaction ∷ SelectStatus ∷ []

-- All rules, in the order in which they are checked.
abbrev pub all_rules : List Rule
all_rules = order_rules ++ (timer_rules ++ (format_rules ++ (transaction_rules ++ (NoCause ∷ []))))

-- Holds if the result is the first rule of the list that applies, or none.
abbrev pub IsFirst : (Rule → Type 0) → List Rule → Option Rule → Type 0
IsFirst Applies [] answer = answer ≡ None
IsFirst Applies (rule ∷ rules) answer =
    (Applies rule × (answer ≡ Some rule)) ⊎ (¬ Applies rule × IsFirst Applies rules answer)
