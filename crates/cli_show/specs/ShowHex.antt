-- What `hsms show --hex` writes for an input: lines of hexadecimal, each of which is a message.
use Rattle.std.specs.Prelude.{◌≡◌, ◌≢◌, ◌<◌, ◌≤◌, ◌+◌, ◌*◌, ◌⊎◌, ◌==◌, ◌||◌, ◌++◌, ℕ, Bool, true, false, List, [], ◌∷◌, length, if◌then◌else◌, Option, Some, None, Result, Ok, Err}
use Rattle.std.specs.List.{flat_map}
use Rattle.std.specs.Str.Lines.{strip_carriage_return}
use Rattle.hex.specs.Hex.{hex_digit_value}
use Rattle.hsms_frame.specs.declared.fault.ReadFault.TheVariants as read
use Rattle.hsms_frame.specs.Io.{Grows, GrowsByFront}
use Rattle.hsms_frame.specs.Frame.{Frame, frame_octets}
use Rattle.hsms_frame.specs.Header.{header_octets}
use Rattle.hsms_log.specs.Lines.{HasNone}
use Rattle.cli_output.specs.Line.{LineOf}
use Rattle.cli_output.specs.IoErrors.{LeavesPart}
use Rattle.cli_show.specs.Show.{IsWithin}
use Rattle.cli_show.specs.declared.show_error.ShowError.{ShowError}
use Rattle.cli_show.specs.declared.show_error.ShowError.TheVariants.{Read, NoHex, NoMessage, Write, Endless}

-- ---- the bytes of a line

-- True for a space or a tab.
abbrev pub is_blank : ℕ → Bool
is_blank c = c == 32 || c == 9

-- The byte in two digits, in either case.
abbrev pub joined : Option ℕ → Option ℕ → Option ℕ
joined (Some high) (Some low) = Some (high * 16 + low)
joined (Some high) None = None
joined None low = None

abbrev pub octet_of : ℕ → ℕ → Option ℕ
octet_of high low = joined (hex_digit_value high) (hex_digit_value low)

-- A byte before others, if both exist.
abbrev pub octet_and : Option ℕ → Option (List ℕ) → Option (List ℕ)
octet_and (Some octet) (Some octets) = Some (octet ∷ octets)
octet_and (Some octet) None = None
octet_and None octets = None

-- The bytes in a text: two digits each, with blanks before, between and after them.
unfoldable pub decoded_octets : List ℕ → Option (List ℕ)
decoded_octets [] = Some []
decoded_octets (c ∷ []) = if is_blank c then Some [] else None
decoded_octets (c ∷ d ∷ rest) =
    if is_blank c then decoded_octets (d ∷ rest) else octet_and (octet_of c d) (decoded_octets rest)

-- The bytes of a line, which may end with a carriage return.
abbrev pub octets_of_line : List ℕ → Option (List ℕ)
octets_of_line line = decoded_octets (strip_carriage_return line)

-- ---- the message of a line

-- The maximum length of a line in bytes, by the limit for header and text.
abbrev pub line_limit : ℕ → ℕ
line_limit max = 4 * max + 64

-- The bytes of a message: all, or those of header and text alone.
abbrev pub message_octets : Bool → Frame → List ℕ
message_octets false f = frame_octets f
message_octets true f = header_octets f.header ++ f.text

-- Holds if bytes are those of a message within the limit.
abbrev pub IsMessageOf : Bool → ℕ → List ℕ → Frame → Type 0
IsMessageOf bare max octets f = (octets ≡ message_octets bare f) × IsWithin max f

-- What is shown of the bytes of a line: nothing if there are none, otherwise the line of their message.
abbrev pub ShowsOctets : Bool → ℕ → ℕ → List ℕ → List ℕ → Type 0
ShowsOctets bare max depth octets shown =
    ((octets ≡ []) × (shown ≡ [])) ⊎ ((f : Frame) × IsMessageOf bare max octets f × LineOf depth f shown)

-- What is shown of a line.
abbrev pub ShowsLine : Bool → ℕ → ℕ → List ℕ → List ℕ → Type 0
ShowsLine bare max depth line shown =
    (octets : List ℕ) × (octets_of_line line ≡ Some octets) × ShowsOctets bare max depth octets shown

-- Holds for bytes that are not a message within the limit.
abbrev pub IsNoMessage : Bool → ℕ → List ℕ → Type 0
IsNoMessage bare max octets = (octets ≢ []) × ((f : Frame) → IsMessageOf bare max octets f → ⊥)

-- Holds if this is the error for the bytes of the line with this number, which are not a message.
abbrev pub IsNotMessage : Bool → ℕ → ℕ → List ℕ → ShowError → Type 0
IsNotMessage bare max number octets error = IsNoMessage bare max octets × (error ≡ NoMessage number)

-- Holds if this is the error for an invalid line: it has no valid bytes, or they are not a message.
abbrev pub IsRefusedLine : Bool → ℕ → ℕ → List ℕ → ShowError → Type 0
IsRefusedLine bare max number line error =
    ((octets_of_line line ≡ None) × (error ≡ NoHex number))
    ⊎ ((octets : List ℕ) × (octets_of_line line ≡ Some octets) × IsNotMessage bare max number octets error)

-- ---- the lines of an input

-- Lines, each with its line feed.
abbrev pub ended : List (List ℕ) → List ℕ
ended lines = flat_map (λ line. line ++ 10 ∷ []) lines

-- Holds for a line without a line feed, within the maximum length of a line.
abbrev pub IsLine : ℕ → List ℕ → Type 0
IsLine max line = HasNone 10 line × (length line ≤ line_limit max)

-- What is shown of some lines.
abbrev pub ShowsLines : Bool → ℕ → ℕ → List (List ℕ) → List ℕ → Type 0
ShowsLines bare max depth [] shown = shown ≡ []
ShowsLines bare max depth (line ∷ lines) shown =
    (first rest : List ℕ) × IsLine max line × ShowsLine bare max depth line first × ShowsLines bare max depth lines rest
    × (shown ≡ first ++ rest)

-- The first line of an input. It ends at a line feed or at the end of the input.
abbrev pub BeginsWithLine : ℕ → List ℕ → List ℕ → Type 0
BeginsWithLine max input line = IsLine max line × ((input ≡ line) ⊎ ((after : List ℕ) × (input ≡ line ++ 10 ∷ after)))

-- Holds if an input starts with more bytes than a line may have, and none of them is a line feed.
abbrev pub IsTooFar : ℕ → List ℕ → Type 0
IsTooFar max input = (front after : List ℕ) × (input ≡ front ++ after) × HasNone 10 front × (line_limit max < length front)

-- Why an input is invalid at its first line, which has this number.
abbrev pub IsRefusedAt : Bool → ℕ → ℕ → List ℕ → ShowError → Type 0
IsRefusedAt bare max number input error =
    ((line : List ℕ) × BeginsWithLine max input line × IsRefusedLine bare max number line error)
    ⊎ (IsTooFar max input × (error ≡ NoMessage number))

-- Holds if a prefix of the input was consumed, in which no line ends and which is not too long for one.
abbrev pub StopsInLine : ℕ → List ℕ → Option (List ℕ) → Type 0
StopsInLine max input left = (taken rest : List ℕ) × (input ≡ taken ++ rest) × (left ≡ Some rest) × IsLine max taken

-- Nothing, or what is shown of the first line of an input.
abbrev pub MayShow : Bool → ℕ → ℕ → List ℕ → List ℕ → Type 0
MayShow bare max depth input more =
    (more ≡ []) ⊎ ((line : List ℕ) × BeginsWithLine max input line × ShowsLine bare max depth line more)

-- The results after some lines were passed. The next line has this number, `rest` is what follows in the input, and
-- `shown` is what is shown of the passed lines. Each has what is left of the input, and what was written before and is
-- now. After success, `rest` is the last line, which may be empty.
abbrev pub StopsAt : {T : Type 0} → Bool → ℕ → ℕ → ℕ → List ℕ → List ℕ → Result T ShowError → Option (List ℕ)
    → Option (List ℕ) → Option (List ℕ) → Type 0
StopsAt bare max depth number rest shown (Ok _) left old new =
    (last : List ℕ) × IsLine max rest × ShowsLine bare max depth rest last × (left ≡ Some []) × Grows old new (shown ++ last)
StopsAt bare max depth number rest shown (Err (Read read.Read)) left old new = StopsInLine max rest left × Grows old new shown
StopsAt bare max depth number rest shown (Err (Read read.Memory)) left old new = LeavesPart rest left × Grows old new shown
StopsAt bare max depth number rest shown (Err Write) left old new =
    LeavesPart rest left × (more : List ℕ) × MayShow bare max depth rest more × GrowsByFront old new (shown ++ more)
StopsAt bare max depth number rest shown (Err Endless) left old new =
    (number ≡ 4294967296) × (rest ≢ []) × LeavesPart rest left × Grows old new shown
StopsAt bare max depth number rest shown (Err error) left old new =
    IsRefusedAt bare max number rest error × LeavesPart rest left × Grows old new shown

-- Holds if the input starts with some lines, and what is shown of them was appended to the earlier output, up to where
-- the run stopped.
abbrev pub ShowsHex : {T : Type 0} → Bool → ℕ → ℕ → List ℕ → Result T ShowError → Option (List ℕ) → Option (List ℕ) → Option (List ℕ)
    → Type 0
ShowsHex bare max depth input result left old new =
    (lines : List (List ℕ)) × (shown rest : List ℕ) × (input ≡ ended lines ++ rest) × ShowsLines bare max depth lines shown
    × (length lines ≤ 4294967295) × StopsAt bare max depth (length lines + 1) rest shown result left old new
