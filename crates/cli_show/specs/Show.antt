-- What `hsms show` writes for an input.
use Rattle.std.specs.Prelude.{◌≡◌, ◌<◌, ◌≤◌, ◌+◌, ◌++◌, ℕ, List, [], ◌∷◌, All, length, take, Option, Some, Result, Ok, Err}
use Rattle.std.specs.List.{flat_map}
use Rattle.hsms_frame.specs.declared.fault.ReadFault.{ReadFault}
use Rattle.hsms_frame.specs.declared.fault.ReadFault.TheVariants as read
use Rattle.hsms_frame.specs.Io.{IfRecorded, Grows}
use Rattle.hsms_frame.specs.Frame.{Frame, frame_octets, IsFrame}
use Rattle.hsms_frame.specs.Reading.{ReadsAs, StopsWithin}
use Rattle.cli_output.specs.IoErrors.{LeavesPart}
use Rattle.cli_output.specs.Line.{LineOf}
use Rattle.cli_show.specs.declared.show_error.ShowError.{ShowError}
use Rattle.cli_show.specs.declared.show_error.ShowError.TheVariants.{Read, NoHex, NoMessage, Write, Endless}

-- Holds for a message whose header and text are within the limit.
abbrev pub IsWithin : ℕ → Frame → Type 0
IsWithin max f = IsFrame f × (10 + length f.text ≤ max)

-- The bytes of messages, one after another.
abbrev pub octets_of : List Frame → List ℕ
octets_of messages = flat_map frame_octets messages

-- The lines of messages, one after another.
abbrev pub LinesOf : ℕ → List Frame → List ℕ → Type 0
LinesOf depth [] lines = lines ≡ []
LinesOf depth (f ∷ fs) lines = (first rest : List ℕ) × LineOf depth f first × LinesOf depth fs rest × (lines ≡ first ++ rest)

-- Why no message was read from an input, of which these bytes are left: a read failed within a message, an allocation
-- failed, or the input is invalid. It is if a length field is too small or too large, or if it ends within a message.
abbrev pub IsStopped : ℕ → List ℕ → ReadFault → Option (List ℕ) → Type 0
IsStopped max input read.Read left = StopsWithin max input left
IsStopped max input read.Memory left = LeavesPart input left
IsStopped max input fault left = ((after : Option (List ℕ)) × ReadsAs max input (Err fault) after) × LeavesPart input left

-- Holds if an input starts with a message, and these bytes follow it.
abbrev pub Begins : ℕ → List ℕ → Frame → List ℕ → Type 0
Begins max input f after = (input ≡ frame_octets f ++ after) × IsWithin max f

-- Holds if these lines were written, and then an incomplete part of one more.
abbrev pub GrowsThenByFront : Option (List ℕ) → Option (List ℕ) → List ℕ → List ℕ → Type 0
GrowsThenByFront old new lines line =
    IfRecorded old (λ octets. (n : ℕ) × (n < length line) × (new ≡ Some (octets ++ lines ++ take n line)))

-- The results after `count` messages were shown; `rest` is what follows them in the input, and `lines` are their lines.
-- Each has what is left of the input, and what was written before and is now. A write fails within the next line.
abbrev pub Stops : {T : Type 0} → ℕ → ℕ → ℕ → List ℕ → List ℕ → Result T ShowError → Option (List ℕ) → Option (List ℕ)
    → Option (List ℕ) → Type 0
Stops max depth count rest lines (Ok _) left old new = (rest ≡ []) × (left ≡ Some []) × Grows old new lines
Stops max depth count rest lines (Err (Read fault)) left old new = IsStopped max rest fault left × Grows old new lines
Stops max depth count rest lines (Err Write) left old new =
    (f : Frame) × (after line : List ℕ) × Begins max rest f after × LineOf depth f line
    × LeavesPart after left × GrowsThenByFront old new lines line
Stops max depth count rest lines (Err Endless) left old new =
    (count ≡ 4294967295) × (f : Frame) × (after : List ℕ) × Begins max rest f after × LeavesPart after left × Grows old new lines
Stops max depth count rest lines (Err (NoHex line)) left old new = ⊥
Stops max depth count rest lines (Err (NoMessage line)) left old new = ⊥

-- Holds if the input starts with some messages, and their lines were appended to the earlier output, up to where the
-- run stopped.
abbrev pub Shows : {T : Type 0} → ℕ → ℕ → List ℕ → Result T ShowError → Option (List ℕ) → Option (List ℕ) → Option (List ℕ)
    → Type 0
Shows max depth input result left old new =
    (messages : List Frame) × (lines rest : List ℕ) × (input ≡ octets_of messages ++ rest) × All (IsWithin max) messages
    × LinesOf depth messages lines × (length messages ≤ 4294967295)
    × Stops max depth (length messages) rest lines result left old new
