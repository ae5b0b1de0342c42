-- The errors of the calls of an endpoint (project-specific).
use Rattle.std.specs.Prelude.{◌≡◌, ◌⊎◌, ◌≤◌, ◌%◌, Bool, true, false, List, [], ◌∷◌, Option, Some, None, IsTrue}
use Rattle.secs_text.specs.Content.{Content}
use Rattle.hsms_machine.specs.declared.phase.Phase.{Phase}
use Rattle.hsms_machine.specs.declared.phase.Phase.TheVariants.{Before}
use Rattle.hsms_machine.specs.ViewRules.{is_selected}
use Rattle.hsms_machine.specs.View.{own_open_of}
use Rattle.hsms_endpoint.specs.EndState.{EndState}
use Rattle.hsms_endpoint.specs.declared.fault.EndFault.{EndFault}
use Rattle.hsms_endpoint.specs.declared.fault.EndFault.TheVariants.{Spent, NotUp, NotSelected, NotPrimary, Nine, Full, TooLong, TooDeep, Memory}
use Rattle.hsms_endpoint.specs.Frame.{is_within_depth, fitting_text}
use Rattle.hsms_endpoint.specs.Turn.{is_up, InputEvent, start, send, linktest}

abbrev pub is_before : Phase → Bool
is_before Before = true
is_before _ = false

-- Holds if the connection is not as the input needs it. A start needs that there was none yet; any other input needs
-- that it is up.
abbrev pub IsNotUp : EndState → InputEvent → Type 0
IsNotUp end (start now) = is_before end.view.phase ≡ false
IsNotUp end _ = is_up end.view.phase ≡ false

-- True if the input opens a transaction.
abbrev pub opens_own : InputEvent → Bool
opens_own (send message) = message.wait
opens_own linktest = true
opens_own _ = false

-- The conditions that only a message to be sent is checked for.
abbrev pub HindersMessage : EndState → Content → EndFault → Type 0
HindersMessage end message NotSelected = is_selected end.view.phase ≡ false
HindersMessage end message NotPrimary = message.function % 2 ≡ 0
HindersMessage end message Nine = message.stream ≡ 9
HindersMessage end message TooDeep = is_within_depth end.settings.depth message.item ≡ false
HindersMessage end message TooLong = fitting_text end.settings message.item ≡ None
HindersMessage end message _ = ⊥

abbrev pub HindersSend : EndState → InputEvent → EndFault → Type 0
HindersSend end (send message) fault = HindersMessage end message fault
HindersSend end _ fault = ⊥

-- Holds if the error's condition holds for the endpoint and the input.
abbrev pub Hinders : EndState → InputEvent → EndFault → Type 0
Hinders end input Spent = end.spent ≡ true
Hinders end input NotUp = IsNotUp end input
Hinders end input Full = IsTrue (opens_own input) × (64 ≤ own_open_of end.view)
Hinders end input Memory = ⊥
Hinders end input fault = HindersSend end input fault

-- The errors in the order in which they are checked.
abbrev pub faults : List EndFault
faults = Spent ∷ NotUp ∷ NotSelected ∷ NotPrimary ∷ Nine ∷ Full ∷ TooDeep ∷ TooLong ∷ []

-- Holds if the result is the first error of the list that applies, or none.
abbrev pub IsFirstFault : (EndFault → Type 0) → List EndFault → Option EndFault → Type 0
IsFirstFault Applies [] answer = answer ≡ None
IsFirstFault Applies (fault ∷ later) answer =
    (Applies fault × (answer ≡ Some fault)) ⊎ (¬ Applies fault × IsFirstFault Applies later answer)

-- The error that the input has, or none.
unfoldable pub Encounters : EndState → InputEvent → Option EndFault → Type 0
Encounters end input answer = IsFirstFault (Hinders end input) faults answer
