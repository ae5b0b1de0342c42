-- Facts about messages that do not depend on the code.
use Rattle.std.specs.Prelude.{◌≡◌, ◌≢◌, ◌++◌, ℕ, List, flat_map, Option, Result, Err}
use Rattle.hsms_frame.specs.declared.header.Header.{Header}
use Rattle.hsms_frame.specs.declared.fault.ReadFault.{ReadFault}
use Rattle.hsms_frame.specs.declared.fault.FrameFault.{FrameFault}
use Rattle.hsms_frame.specs.declared.fault.FrameFault.TheVariants.{Memory}
use Rattle.hsms_frame.specs.Header.{header_octets, IsHeader}
use Rattle.hsms_frame.specs.Frame.{Frame, frame_octets, IsFrame, IsOctets}
use Rattle.hsms_frame.specs.Reading.{ReadsAs, IsRefusal}
use Rattle.hsms_frame.specs.Framing.{FramerState, FramesAs}
use Rattle.hsms_frame.specs.Calls.{Call, PerformsAll, octets_of, message_of, IsDrained}

-- The encoding of a header consists of bytes.
abbrev pub HeadersAreOctets : Type 0
HeadersAreOctets = (h : Header) → IsHeader h → IsOctets (header_octets h)

-- The encoding of a message consists of bytes.
abbrev pub MessagesAreOctets : Type 0
MessagesAreOctets = (f : Frame) → IsFrame f → IsOctets (frame_octets f)

-- No message is a prefix of another, and no bytes encode two messages.
abbrev pub OneMessageAtFront : Type 0
OneMessageAtFront =
    (f g : Frame) (x y : List ℕ) → IsFrame f → IsFrame g → frame_octets f ++ x ≡ frame_octets g ++ y → (f ≡ g) × (x ≡ y)

-- ---- an input that is read has exactly one result, unless a read or an allocation fails

abbrev pub SomeAnswer : Type 0
SomeAnswer =
    (max : ℕ) (input : List ℕ) → IsOctets input
    → (answer : Result (Option Frame) ReadFault) × (left : Option (List ℕ)) × (IsRefusal answer → ⊥)
    × ReadsAs max input answer left

abbrev pub OneAnswer : Type 0
OneAnswer =
    (max : ℕ) (input : List ℕ) (a b : Result (Option Frame) ReadFault) (left other : Option (List ℕ))
    → (IsRefusal a → ⊥) → (IsRefusal b → ⊥) → ReadsAs max input a left → ReadsAs max input b other
    → (a ≡ b) × (left ≡ other)

-- ---- and so have the pending bytes of a framer, unless an allocation fails

abbrev pub SomeAnswerToPending : Type 0
SomeAnswerToPending =
    (max : ℕ) (pending : List ℕ) → IsOctets pending
    → (answer : Result (Option Frame) FrameFault) × (rest : List ℕ) × (answer ≢ Err Memory)
    × FramesAs max pending answer rest

abbrev pub OneAnswerToPending : Type 0
OneAnswerToPending =
    (max : ℕ) (pending : List ℕ) (a b : Result (Option Frame) FrameFault) (rest other : List ℕ)
    → a ≢ Err Memory → b ≢ Err Memory → FramesAs max pending a rest → FramesAs max pending b other
    → (a ≡ b) × (rest ≡ other)

-- ---- any calls of a framer, in order

-- The pending and the pushed bytes are those of the returned messages, in order, followed by the bytes that are pending
-- now.
abbrev pub GivesWhatWasPushed : Type 0
GivesWhatWasPushed =
    (old new : FramerState) (calls : List Call) → PerformsAll old calls new
    → old.pending ++ flat_map octets_of calls ≡ flat_map frame_octets (flat_map message_of calls) ++ new.pending

-- The messages and the framer do not depend on how the same bytes are divided into chunks, once no complete message is
-- pending.
abbrev pub AnyPiecesGiveTheSame : Type 0
AnyPiecesGiveTheSame =
    (old new end : FramerState) (calls others : List Call) → PerformsAll old calls new → PerformsAll old others end
    → flat_map octets_of calls ≡ flat_map octets_of others → IsDrained new → IsDrained end
    → (flat_map message_of calls ≡ flat_map message_of others) × (new ≡ end)
