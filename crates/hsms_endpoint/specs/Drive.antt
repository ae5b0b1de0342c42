-- A complete connection from a list of inputs (project-specific).
use Rattle.std.specs.Prelude.{◌≡◌, ℕ, List, [], ◌∷◌, ◌++◌, Some, None}
use Rattle.secs_text.specs.Content.{Content}
use Rattle.secs_text.specs.View.{content}
use Rattle.hsms_frame.specs.Frame.{frame_octets}
use Rattle.hsms_machine.specs.declared.entry.Entry.{Entry}
use Rattle.hsms_machine.specs.declared.entry.Event.{Event}
use Rattle.hsms_machine.specs.declared.entry.Event.TheVariants.{Taken, Discarded}
use Rattle.hsms_endpoint.specs.declared.input.Input.{Input}
use Rattle.hsms_endpoint.specs.declared.input.Input.TheVariants.{Start, Tick, Bytes, Send, Linktest, Separate, Lost}
use Rattle.hsms_endpoint.specs.declared.fault.EndFault.{EndFault}
use Rattle.hsms_endpoint.specs.Answer.{Answered}
use Rattle.hsms_endpoint.specs.EndState.{EndState}
use Rattle.hsms_endpoint.specs.Turn.{InputEvent, Turn, start, tick, bytes, send, linktest, separate, lost}
use Rattle.hsms_endpoint.specs.Fault.{Encounters}

-- An input, apart from where it is in memory.
abbrev pub input_event : Input → InputEvent
input_event (Start now) = start now
input_event (Tick now) = tick now
input_event (Bytes octets) = bytes octets.items
input_event (Send message) = send (content message)
input_event Linktest = linktest
input_event Separate = separate
input_event Lost = lost

-- The response to an input. If it has an error, it is not accepted and adds nothing. Otherwise its turn is taken.
pub data Responds (desk : ℕ → Content → Answered) (end : EndState) (input : InputEvent) (accepted : List InputEvent) (entries : List Entry) (end' : EndState) : Type 0 where
  is_refused : (fault : EndFault) → Encounters end input (Some fault)
      → accepted ≡ [] → entries ≡ [] → end' ≡ end → Responds desk end input accepted entries end'
  is_accepted : Encounters end input None → Turn desk end input entries end'
      → accepted ≡ input ∷ [] → Responds desk end input accepted entries end'

-- Holds if the inputs are processed one after the other: which of them are accepted, and their new entries, in order.
abbrev pub Drives : (ℕ → Content → Answered) → EndState → List InputEvent → List InputEvent → List Entry → EndState → Type 0
Drives desk end [] accepted entries end' = (accepted ≡ []) × (entries ≡ []) × (end' ≡ end)
Drives desk end (input ∷ inputs) accepted entries end' =
    (next : EndState) × (one : List InputEvent) × (more : List InputEvent) × (first : List Entry) × (later : List Entry)
    × Responds desk end input one first next × Drives desk next inputs more later end'
    × (accepted ≡ one ++ more) × (entries ≡ first ++ later)

-- ---- bytes

abbrev pub octets_of : InputEvent → List ℕ
octets_of (bytes octets) = octets
octets_of _ = []

-- The bytes of the inputs, in order.
abbrev pub input_octets : List InputEvent → List ℕ
input_octets [] = []
input_octets (input ∷ inputs) = octets_of input ++ input_octets inputs

-- A received frame.
abbrev pub octets_in : Event → List ℕ
octets_in (Taken frame) = frame_octets frame
octets_in (Discarded frame) = frame_octets frame
octets_in _ = []

-- The frames of the accepted and the discarded entries, in order.
abbrev pub octets_received : List Entry → List ℕ
octets_received [] = []
octets_received (entry ∷ entries) = octets_in entry.event ++ octets_received entries

-- ---- the result of `drive`

-- Holds if the inputs from the first one on gave these entries, and left these bytes pending.
pub record IsDriven (desk : ℕ → Content → Answered) (end : EndState) (inputs : List InputEvent) (entries : List Entry) (pending : List ℕ) : Type 0 where
  pub accepted : List InputEvent
  pub last : EndState
  pub drives : Drives desk end inputs accepted entries last
  pub left : pending ≡ last.pending
  pub octets : input_octets accepted ≡ octets_received entries ++ pending
