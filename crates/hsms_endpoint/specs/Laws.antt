-- The laws of the endpoints (project-specific), over the definitions alone.
use Rattle.std.specs.Prelude.{◌≡◌, ◌<◌, ◌≤◌, ◌+◌, ◌^◌, ◌%◌, ℕ, false, List, [], ◌∷◌, ◌++◌, map, max, Option, Some}
use Rattle.std.specs.List.{list_any}
use Rattle.secs_text.specs.Content.{Content}
use Rattle.hsms_frame.specs.Frame.{Frame}
use Rattle.hsms_machine.specs.declared.entry.Entry.{Entry}
use Rattle.hsms_machine.specs.declared.entry.Event.TheVariants.{Sent, T3, Cut, Down}
use Rattle.hsms_machine.specs.declared.entry.Cause.{Cause}
use Rattle.hsms_machine.specs.declared.open_transactions.Transaction.{Transaction}
use Rattle.hsms_machine.specs.declared.view.View.{View}
use Rattle.hsms_machine.specs.Entry.{is_t3}
use Rattle.hsms_machine.specs.View.{own_open_of}
use Rattle.hsms_endpoint.specs.declared.fault.EndFault.{EndFault}
use Rattle.hsms_endpoint.specs.Answer.{Answered}
use Rattle.hsms_endpoint.specs.EndState.{EndState}
use Rattle.hsms_endpoint.specs.SystemBytes.{number_on, IsFree, IsFirstFree}
use Rattle.hsms_endpoint.specs.Turn.{InputEvent, Turn, tick, expired_at, overdue_cause}
use Rattle.hsms_endpoint.specs.Action.{Act, asks, Acts}
use Rattle.hsms_endpoint.specs.Fault.{Encounters}
use Rattle.hsms_endpoint.specs.Drive.{Drives, octets_of, input_octets, octets_received}

-- ---- bytes

-- The pending bytes and the received ones are the frames of the new entries, in order, followed by the bytes still
-- pending.
abbrev pub TurnKeepsOctets : Type 0
TurnKeepsOctets =
    (desk : ℕ → Content → Answered) (end : EndState) (input : InputEvent) (entries : List Entry) (end' : EndState)
    → Turn desk end input entries end'
    → end.pending ++ octets_of input ≡ octets_received entries ++ end'.pending

-- The same property for the accepted inputs of a list.
abbrev pub DriveKeepsOctets : Type 0
DriveKeepsOctets =
    (desk : ℕ → Content → Answered) (end : EndState) (inputs accepted : List InputEvent) (entries : List Entry)
    (end' : EndState)
    → Drives desk end inputs accepted entries end'
    → end.pending ++ input_octets accepted ≡ octets_received entries ++ end'.pending

-- ---- one outcome

-- An input has at most one error.
abbrev pub FaultIsUnique : Type 0
FaultIsUnique =
    (end : EndState) (input : InputEvent) (one other : Option EndFault) → Encounters end input one → Encounters end input other → one ≡ other

-- Acts always give the same entries and lead to the same endpoint state.
abbrev pub ActsHaveOneOutcome : Type 0
ActsHaveOneOutcome =
    (end : EndState) (acts : List Act) (one other : List Entry) (end' end'' : EndState)
    → Acts end acts one end' → Acts end acts other end'' → (one ≡ other) × (end' ≡ end'')

-- A turn always gives the same entries and leads to the same endpoint state.
abbrev pub TurnHasOneOutcome : Type 0
TurnHasOneOutcome =
    (desk : ℕ → Content → Answered) (end : EndState) (input : InputEvent) (one other : List Entry) (end' end'' : EndState)
    → Turn desk end input one end' → Turn desk end input other end'' → (one ≡ other) × (end' ≡ end'')

-- A list of inputs always gives the same entries and endpoint state, and the same inputs are accepted.
abbrev pub DriveHasOneOutcome : Type 0
DriveHasOneOutcome =
    (desk : ℕ → Content → Answered) (end : EndState) (inputs accepted others : List InputEvent) (one other : List Entry)
    (end' end'' : EndState)
    → Drives desk end inputs accepted one end' → Drives desk end inputs others other end''
    → (accepted ≡ others) × (one ≡ other) × (end' ≡ end'')

-- ---- own system bytes

-- If at most 64 own transactions are open, free system bytes are among the next 65 values.
abbrev pub FreeNumberIsAmongTheNext65 : Type 0
FreeNumberIsAmongTheNext65 =
    (view : View) (next : ℕ) → own_open_of view ≤ 64
    → (places : ℕ) × (places < 65) × IsFree view (number_on next places)

-- At most one number is the first free one.
abbrev pub FirstFreeIsOne : Type 0
FirstFreeIsOne =
    (view : View) (next one other : ℕ) → IsFirstFree view next one → IsFirstFree view next other → one ≡ other

-- An own message uses the first free number from the next one on. The next one is then one more, wrapping after
-- ffffffff to 0: it follows the number that was used, even if others were skipped.
abbrev pub NextNumberFollowsTheTakenOne : Type 0
NextNumberFollowsTheTakenOne =
    (end : EndState) (frame : ℕ → Frame) (acts : List Act) (entries : List Entry) (end' : EndState)
    → Acts end (asks frame ∷ acts) entries end'
    → (number : ℕ) × (later : List Entry) × (subsequent : EndState)
    × IsFirstFree end.view end.next number
    × (entries ≡ record { time = end.moment; event = Sent (frame number) } ∷ later)
    × (subsequent.next ≡ (number + 1) % 2 ^ 32)
    × Acts subsequent acts later end'

-- ---- tick

abbrev pub expiry_at : ℕ → Transaction → Entry
expiry_at moment opened = record { time = moment; event = T3 opened.header.system }

-- The entries of the own data that is overdue once time has advanced, in order of opening.
abbrev pub expiries_at : EndState → ℕ → List Entry
expiries_at end moment = map (expiry_at moment) (expired_at end.view moment)

-- A tick logs all expiries first. No entry after them, not even an S9F9, is an expiry.
abbrev pub AllExpiriesAreLoggedBeforeAnyS9F9 : Type 0
AllExpiriesAreLoggedBeforeAnyS9F9 =
    (desk : ℕ → Content → Answered) (end : EndState) (now : ℕ) (entries : List Entry) (end' : EndState)
    → Turn desk end (tick now) entries end'
    → (later : List Entry) × (entries ≡ expiries_at end (max end.moment now) ++ later)
    × (list_any (λ entry. is_t3 entry.event) later ≡ false)

-- If a timer of the link is overdue, a tick logs the expiries, a cut, the end of the connection, and nothing else.
abbrev pub OverdueLinkTimerLeavesS9F9Out : Type 0
OverdueLinkTimerLeavesS9F9Out =
    (desk : ℕ → Content → Answered) (end : EndState) (now : ℕ) (entries : List Entry) (end' : EndState) (cause : Cause)
    → overdue_cause (record end { moment = max end.moment now }) ≡ Some cause
    → Turn desk end (tick now) entries end'
    → entries
    ≡ expiries_at end (max end.moment now)
    ++ record { time = max end.moment now; event = Cut cause } ∷ record { time = max end.moment now; event = Down } ∷ []
