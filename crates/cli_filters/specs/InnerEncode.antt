-- What only contracts of private functions use, besides the definitions of `Encode`.
use Rattle.std.specs.Prelude.{◌≡◌, ◌<◌, ◌≤◌, ◌+◌, ◌^◌, ◌⊎◌, ◌++◌, ℕ, zero, suc, Bool, false, List, [], ◌∷◌, length, Option, Some, None, Result, Ok, Err}
use Rattle.secs_text.specs.declared.fault.TextFault.TheVariants as text
use Rattle.secs_text.specs.Content.{Content, AllWithin}
use Rattle.secs_text.specs.Notation.{Notations}
use Rattle.secs_text.specs.Fault.{NotesFault}
use Rattle.hsms_frame.specs.Io.{Stays, Grows, GrowsByFront}
use Rattle.hsms_frame.specs.Frame.{Frame, frame_octets}
use Rattle.cli_filters.specs.declared.encode_error.EncodeError.{EncodeError}
use Rattle.cli_filters.specs.declared.encode_error.EncodeError.TheVariants as encode
use Rattle.cli_filters.specs.declared.encode_error.Refusal.{Refusal}
use Rattle.cli_filters.specs.Encode.{output_of, next_system, Encodes, FirstWithoutFrame}

-- ---- messages

abbrev pub system_after : ℕ → ℕ → ℕ
system_after system zero = system
system_after system (suc n) = system_after (next_system system) n

-- ---- consecutive frames

-- Holds if these are the bytes of consecutive frames. The first four of each count the others.
abbrev pub AreFrames : List Frame → List ℕ → Type 0
AreFrames [] octets = octets ≡ []
AreFrames (f ∷ fs) octets =
    (rest : List ℕ) × (10 + length f.text < 2 ^ 32) × AreFrames fs rest × (octets ≡ frame_octets f ++ rest)

-- What is written of frames.
abbrev pub outputs_of : Bool → List Frame → List ℕ
outputs_of hex [] = []
outputs_of hex (f ∷ fs) = output_of hex f ++ outputs_of hex fs

-- Holds if a text is written, or a part of it if the write fails, or nothing if an allocation fails.
abbrev pub WritesOut : List ℕ → Result (Unit {0}) EncodeError → Option (List ℕ) → Option (List ℕ) → Type 0
WritesOut output (Ok _) old new = Grows old new output
WritesOut output (Err encode.Write) old new = GrowsByFront old new output
WritesOut output (Err error) old new = (error ≡ encode.Text text.Memory) × Stays old new

-- ---- frames that are buffered

-- The bytes that were made of messages, and the next system bytes; or why the first message without a frame has none.
abbrev pub Frames : ℕ → ℕ → ℕ → ℕ → Option Refusal → List ℕ → List Content → Type 0
Frames device max system next None octets ms = Encodes device max false system ms octets × (next ≡ system_after system (length ms))
Frames device max system next (Some refusal) octets ms = FirstWithoutFrame device max false system ms refusal

-- ---- the steps

-- Holds if these bytes are the input, or a prefix of it if they are past the limit.
abbrev pub IsReadPast : ℕ → List ℕ → List ℕ → Type 0
IsReadPast limit octets input = (length octets ≤ limit → octets ≡ input) × (limit < length octets → limit < length input)

-- Why a text was not encoded: it is not messages, or one of them has no frame; or an allocation failed.
abbrev pub IsNotEncoded : ℕ → ℕ → ℕ → ℕ → List ℕ → EncodeError → Type 0
IsNotEncoded device max depth system input (encode.Text fault) = (fault ≡ text.Memory) ⊎ NotesFault input depth fault
IsNotEncoded device max depth system input (encode.Frame why) =
    (ms : List Content) × Notations ms input × AllWithin depth ms × FirstWithoutFrame device max false system ms why
IsNotEncoded device max depth system input error = ⊥
