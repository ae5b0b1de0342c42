-- Two endpoints that are connected by byte streams.
use Rattle.std.specs.Prelude.{◌≡◌, ◌++◌, ℕ, List, [], ◌∷◌}
use Rattle.secs_text.specs.Content.{Content}
use Rattle.hsms_machine.specs.declared.entry.Entry.{Entry}
use Rattle.hsms_machine.specs.declared.settings.Role.{Role}
use Rattle.hsms_machine.specs.declared.settings.Role.TheVariants.{Host, Equipment}
use Rattle.hsms_machine.specs.Settings.{Parameters}
use Rattle.hsms_endpoint.specs.Answer.{Answered}
use Rattle.hsms_endpoint.specs.EndState.{EndState, initial_state}
use Rattle.hsms_endpoint.specs.Turn.{InputEvent}
use Rattle.hsms_endpoint.specs.Drive.{Responds, input_octets}
use Rattle.hsms_compare.specs.Conversation.{Agree, sent}
use Rattle.hsms_compare.specs.ByteStreams.{CarriesMessages, octets_of}

abbrev pub Desk : Type 0
Desk = ℕ → Content → Answered

-- An endpoint, its log, and the bytes of the inputs that it accepted.
pub record OwnEnd : Type 0 where
  pub state : EndState
  pub log : List Entry
  pub delivered : List ℕ

-- An endpoint that has processed no input.
abbrev pub fresh : Parameters → ℕ → OwnEnd
fresh settings first_system = record { state = initial_state settings first_system; log = []; delivered = [] }

-- Holds if an endpoint processes an input as in `drive`. The bytes that it has accepted are a prefix of those that
-- the other one has sent.
pub record IsTurn (desk : Desk) (own other : OwnEnd) (input : InputEvent) (next : OwnEnd) : Type 0 where
  pub accepted : List InputEvent
  pub entries : List Entry
  pub responds : Responds desk own.state input accepted entries next.state
  pub logged : next.log ≡ own.log ++ entries
  pub octets : next.delivered ≡ own.delivered ++ input_octets accepted
  pub in_transit : List ℕ
  pub streamed : octets_of (sent other.log) ≡ next.delivered ++ in_transit

-- Holds if two endpoints process these inputs, one after the other.
abbrev pub AreTurns : (at_host at_equipment : Desk) (host equipment : OwnEnd) → List (Role × InputEvent)
    → (host' equipment' : OwnEnd) → Type 0
AreTurns at_host at_equipment host equipment [] host' equipment' = (host' ≡ host) × (equipment' ≡ equipment)
AreTurns at_host at_equipment host equipment ((Host, input) ∷ inputs) host' equipment' =
    (next : OwnEnd) × IsTurn at_host host equipment input next × AreTurns at_host at_equipment next equipment inputs host' equipment'
AreTurns at_host at_equipment host equipment ((Equipment, input) ∷ inputs) host' equipment' =
    (next : OwnEnd) × IsTurn at_equipment equipment host input next × AreTurns at_host at_equipment host next inputs host' equipment'

-- The logs of two such endpoints agree, for all inputs and wherever it stops. The numbers of each message must be in
-- their ranges (as they are in each log that a program holds).
abbrev pub OwnEndsAgree : Type 0
OwnEndsAgree =
    (at_host at_equipment : Desk) (settings others : Parameters) (first second : ℕ) (inputs : List (Role × InputEvent))
    (host equipment : OwnEnd) → AreTurns at_host at_equipment (fresh settings first) (fresh others second) inputs host equipment
    → CarriesMessages host.log → CarriesMessages equipment.log → Agree host.log equipment.log
