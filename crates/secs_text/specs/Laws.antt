-- The laws of the notation, over the definitions alone (project-specific).
use Rattle.std.specs.Prelude.{◌≡◌, ◌⊎◌, ℕ, List, [], ◌∷◌, Ok}
use Rattle.secs_text.specs.declared.fault.TextFault.{TextFault}
use Rattle.secs_text.specs.declared.fault.TextFault.TheVariants.{Memory}
use Rattle.secs_text.specs.Content.{Content, IsWithin, AllWithin}
use Rattle.secs_text.specs.Fault.{NoteFault, NotesFault, one_message, any_messages}
use Rattle.secs_text.specs.InRange.{IsHeldMessage}
use Rattle.secs_text.specs.Notation.{Notation, Notations}
use Rattle.secs_text.specs.ParserStates.{reading, finished}
use Rattle.secs_text.specs.Printed.{printed}

-- ---- the parser states and the notation

-- Holds if the parser states accept the notations of messages within the depth. The next law says that they accept no
-- other text.
abbrev pub LetsThroughNotations : Type 0
LetsThroughNotations = (text : List ℕ) (depth : ℕ) (m : Content) → Notation m text → IsWithin depth m → reading (one_message depth) text ≡ Ok (finished (m ∷ []))

abbrev pub LetsThroughNothingElse : Type 0
LetsThroughNothingElse = (text : List ℕ) (depth : ℕ) (ms : List Content) → reading (one_message depth) text ≡ Ok (finished ms) → (m : Content) × (ms ≡ m ∷ []) × Notation m text × IsWithin depth m

-- The same two laws for a text of several messages in order.
abbrev pub LetsThroughMessages : Type 0
LetsThroughMessages = (text : List ℕ) (depth : ℕ) (ms : List Content) → Notations ms text → AllWithin depth ms → reading (any_messages depth) text ≡ Ok (finished ms)

abbrev pub LetsThroughMessagesAlone : Type 0
LetsThroughMessagesAlone = (text : List ℕ) (depth : ℕ) (ms : List Content) → reading (any_messages depth) text ≡ Ok (finished ms) → Notations ms text × AllWithin depth ms

-- ---- exactly one result

-- Holds if a text has at most one message. The next law covers lists of messages.
abbrev pub HasOneMessage : Type 0
HasOneMessage = (text : List ℕ) (m n : Content) → Notation m text → Notation n text → m ≡ n

abbrev pub HasOneList : Type 0
HasOneList = (text : List ℕ) (ms ns : List Content) → Notations ms text → Notations ns text → ms ≡ ns

-- Holds if a text is a message within the depth or has an error.
abbrev pub IsMessageOrFault : Type 0
IsMessageOrFault = (text : List ℕ) (depth : ℕ) → ((m : Content) × Notation m text × IsWithin depth m) ⊎ ((f : TextFault) × NoteFault text depth f)

abbrev pub AreMessagesOrFault : Type 0
AreMessagesOrFault = (text : List ℕ) (depth : ℕ) → ((ms : List Content) × Notations ms text × AllWithin depth ms) ⊎ ((f : TextFault) × NotesFault text depth f)

-- Holds if no text is a message within the depth and also has an error.
abbrev pub IsNotBoth : Type 0
IsNotBoth = (text : List ℕ) (depth : ℕ) (m : Content) (f : TextFault) → Notation m text → IsWithin depth m → NoteFault text depth f → ⊥

abbrev pub AreNotBoth : Type 0
AreNotBoth = (text : List ℕ) (depth : ℕ) (ms : List Content) (f : TextFault) → Notations ms text → AllWithin depth ms → NotesFault text depth f → ⊥

-- Holds if a text has at most one error.
abbrev pub HasOneFault : Type 0
HasOneFault = (text : List ℕ) (depth : ℕ) (f g : TextFault) → NoteFault text depth f → NoteFault text depth g → f ≡ g

abbrev pub HasOneFaultOfAll : Type 0
HasOneFaultOfAll = (text : List ℕ) (depth : ℕ) (f g : TextFault) → NotesFault text depth f → NotesFault text depth g → f ≡ g

-- Holds if the error of a text is never a failed allocation.
abbrev pub IsNeverMemory : Type 0
IsNeverMemory = (text : List ℕ) (depth : ℕ) → (NoteFault text depth Memory ⊎ NotesFault text depth Memory) → ⊥

-- ---- the printed form

-- Holds if the printed form of a message is its notation.
abbrev pub PrintedIsNotation : Type 0
PrintedIsNotation = (m : Content) → IsHeldMessage m → Notation m (printed m)

-- Holds if reading the printed form of a message within the depth returns the message.
abbrev pub PrintedIsLetThrough : Type 0
PrintedIsLetThrough = (m : Content) (depth : ℕ) → IsHeldMessage m → IsWithin depth m → reading (one_message depth) (printed m) ≡ Ok (finished (m ∷ []))
