-- What `hsms encode` writes for an input.
use Rattle.std.specs.Prelude.{◌≡◌, ◌<◌, ◌≤◌, ◌+◌, ◌%◌, ◌^◌, ◌⊎◌, ◌++◌, ℕ, Bool, List, [], ◌∷◌, length, if◌then◌else◌, Option, Some, None, Result, Ok, Err}
use Rattle.hex.specs.Hex.{encode_lower}
use Rattle.secs_item.specs.Item.{Value}
use Rattle.secs_item.specs.ShortestEncoding.{short}
use Rattle.secs_text.specs.declared.fault.TextFault.TheVariants as text
use Rattle.secs_text.specs.Content.{Content, AllWithin}
use Rattle.secs_text.specs.Notation.{Notations}
use Rattle.secs_text.specs.Fault.{NotesFault}
use Rattle.hsms_frame.specs.Build.{data_header_of}
use Rattle.hsms_frame.specs.Io.{Stays, Grows, GrowsByFront}
use Rattle.hsms_frame.specs.Frame.{Frame, frame_octets}
use Rattle.cli_filters.specs.declared.encode_error.EncodeError.{EncodeError}
use Rattle.cli_filters.specs.declared.encode_error.EncodeError.TheVariants as encode
use Rattle.cli_filters.specs.declared.encode_error.Refusal.{Refusal}
use Rattle.cli_filters.specs.declared.encode_error.Refusal.TheVariants.{TooLarge, TooLong}

-- The maximum length of the input, in bytes.
abbrev pub input_limit : ℕ
input_limit = 67108864

-- ---- one message

-- The text of a message: nothing, or the shortest encoding of its item.
abbrev pub TextOf : Option Value → List ℕ → Type 0
TextOf None text = text ≡ []
TextOf (Some v) text = short v ≡ Some text

-- The frame of a message with the session ID of a device and with system bytes. Its header and text are within the
-- limit.
pub record FrameOf (device max system : ℕ) (m : Content) (f : Frame) : Type 0 where
  pub header : f.header ≡ data_header_of device m.stream m.function m.wait system
  pub text : TextOf m.item f.text
  pub within : 10 + length f.text ≤ max

-- What is written of a frame: its bytes, or a line of hexadecimal.
abbrev pub output_of : Bool → Frame → List ℕ
output_of hex f = if hex then encode_lower (frame_octets f) ++ 10 ∷ [] else frame_octets f

-- Why a message has no frame within the limit: its item has no encoding, or the shortest is too long.
abbrev pub HasNoFrame : ℕ → Content → Refusal → Type 0
HasNoFrame max m TooLarge = (v : Value) × (m.item ≡ Some v) × (short v ≡ None)
HasNoFrame max m (TooLong n) =
    (text : List ℕ) × TextOf m.item text × (max < 10 + length text) × (n ≡ 10 + length text)

-- ---- messages

-- The system bytes after these: one more, and 0 after the maximum.
abbrev pub next_system : ℕ → ℕ
next_system system = (system + 1) % 2 ^ 32

-- What is written of messages, with system bytes counted up from the first.
abbrev pub Encodes : ℕ → ℕ → Bool → ℕ → List Content → List ℕ → Type 0
Encodes device max hex system [] output = output ≡ []
Encodes device max hex system (m ∷ ms) output =
    (f : Frame) × (rest : List ℕ) × FrameOf device max system m f × Encodes device max hex (next_system system) ms rest
    × (output ≡ output_of hex f ++ rest)

-- The first message that has no frame within the limit. Those before it have one.
pub record FirstWithoutFrame (device max : ℕ) (hex : Bool) (system : ℕ) (ms : List Content) (why : Refusal) : Type 0 where
  pub before : List Content
  pub message : Content
  pub after : List Content
  pub parts : ms ≡ before ++ message ∷ after
  pub output : List ℕ
  pub encoded : Encodes device max hex system before output
  pub refused : HasNoFrame max message why

-- ---- the results

-- Holds if the input is within the maximum length, and is the notation of these messages within the depth.
abbrev pub ParsesMessages : ℕ → List ℕ → List Content → Type 0
ParsesMessages depth input ms = (length input ≤ input_limit) × Notations ms input × AllWithin depth ms

-- Why an input is not encoded, apart from failed reads and writes: it is too long; it is not messages, or an allocation
-- failed; or a message has no frame within the limit.
abbrev pub IsRefusedInput : ℕ → ℕ → ℕ → Bool → ℕ → List ℕ → EncodeError → Type 0
IsRefusedInput device max depth hex system input encode.Input = input_limit < length input
IsRefusedInput device max depth hex system input (encode.Text fault) =
    (fault ≡ text.Memory) ⊎ ((length input ≤ input_limit) × NotesFault input depth fault)
IsRefusedInput device max depth hex system input (encode.Frame why) =
    (ms : List Content) × ParsesMessages depth input ms × FirstWithoutFrame device max hex system ms why
IsRefusedInput device max depth hex system input error = ⊥

-- Holds if at most `limit` bytes of an input were consumed, and the others are left.
abbrev pub TakesAtMost : ℕ → List ℕ → Option (List ℕ) → Type 0
TakesAtMost limit input left = (taken rest : List ℕ) × (length taken ≤ limit) × (input ≡ taken ++ rest) × (left ≡ Some rest)

-- The results for an input, each with what is left of it, and with what was written before and is now.
abbrev pub EncodesAll : ℕ → ℕ → ℕ → Bool → ℕ → List ℕ → Result (Unit {0}) EncodeError → Option (List ℕ) → Option (List ℕ)
    → Option (List ℕ) → Type 0
EncodesAll device max depth hex system input (Ok _) left old new =
    (ms : List Content) × (output : List ℕ) × ParsesMessages depth input ms × Encodes device max hex system ms output
    × Grows old new output
EncodesAll device max depth hex system input (Err encode.Read) left old new = TakesAtMost input_limit input left × Stays old new
EncodesAll device max depth hex system input (Err encode.Write) left old new =
    (ms : List Content) × (output : List ℕ) × ParsesMessages depth input ms × Encodes device max hex system ms output
    × GrowsByFront old new output
EncodesAll device max depth hex system input (Err error) left old new =
    IsRefusedInput device max depth hex system input error × Stays old new

-- ---- the steps

-- Holds if these bytes are the input, which is no longer than the limit.
abbrev pub IsWholeInput : ℕ → List ℕ → List ℕ → Type 0
IsWholeInput limit octets input = (octets ≡ input) × (length input ≤ limit)

-- Why an input was not read completely: it is longer than the limit; a read failed, and the limit was not passed
-- before; or an allocation failed.
abbrev pub IsPartOfInput : ℕ → List ℕ → EncodeError → Option (List ℕ) → Type 0
IsPartOfInput limit input encode.Input left = limit < length input
IsPartOfInput limit input encode.Read left = TakesAtMost limit input left
IsPartOfInput limit input error left = error ≡ encode.Text text.Memory
