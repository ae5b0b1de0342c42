-- What only contracts of private functions use, besides the definitions of `ShowHex`.
use Rattle.std.specs.Prelude.{◌≡◌, ◌≢◌, ◌<◌, ◌≤◌, ◌⊎◌, ◌++◌, ℕ, Bool, true, false, List, [], ◌∷◌, length, take, slice_index, Option, Some, Result, Ok, Err}
use Rattle.hsms_frame.specs.declared.fault.ReadFault.{ReadFault}
use Rattle.hsms_frame.specs.declared.fault.ReadFault.TheVariants as read
use Rattle.hsms_frame.specs.Io.{Grows, GrowsByFront}
use Rattle.cli_output.specs.LineBuffer.{GrowsHolding}
use Rattle.cli_output.specs.IoErrors.{LeavesPart}
use Rattle.cli_show.specs.declared.show_error.ShowError.{ShowError}
use Rattle.cli_show.specs.declared.show_error.ShowError.TheVariants.{Read, Write}
use Rattle.cli_show.specs.declared.hex_lines.LineEnd.{LineEnd}
use Rattle.cli_show.specs.declared.hex_lines.LineEnd.TheVariants.{Feed, Open, TooFar}
use Rattle.cli_show.specs.ShowHex.{line_limit, ShowsLine, IsLine, IsTooFar, StopsInLine, StopsAt}

-- ---- the steps

-- Where a line ends in bytes: they have its line feed at an index, or none, or are too many for a line.
abbrev pub EndsAt : ℕ → List ℕ → LineEnd → Type 0
EndsAt max octets (Feed n) = (n < length octets) × IsLine max (take n octets) × (slice_index octets n ≡ 10)
EndsAt max octets Open = IsLine max octets
EndsAt max octets TooFar = IsTooFar max octets

-- Where a line ends, by the counts alone.
abbrev pub IsPlaced : ℕ → List ℕ → LineEnd → Type 0
IsPlaced max octets (Feed n) = n < length octets
IsPlaced max octets Open = length octets ≤ line_limit max
IsPlaced max octets TooFar = Unit {0}

abbrev pub is_open : LineEnd → Bool
is_open (Feed n) = false
is_open Open = true
is_open TooFar = false

-- Holds if the next line of an input ends in what was read ahead, or the input ends if the line has no end there.
abbrev pub FindsEnd : ℕ → List ℕ → Result LineEnd ReadFault → List ℕ → Option (List ℕ) → Type 0
FindsEnd max input (Ok end) ahead left =
    (rest : List ℕ) × (left ≡ Some rest) × (input ≡ ahead ++ rest) × EndsAt max ahead end × (end ≡ Open → rest ≡ [])
FindsEnd max input (Err read.Read) ahead left = StopsInLine max input left
FindsEnd max input (Err read.Memory) ahead left = LeavesPart input left
FindsEnd max input (Err fault) ahead left = ⊥

-- Holds if the next line's end is searched for while bytes are buffered before a sink.
abbrev pub FindsEndHolding : ℕ → List ℕ → Result LineEnd ShowError → List ℕ → Option (List ℕ) → Option (List ℕ) → List ℕ
    → Option (List ℕ) → List ℕ → Type 0
FindsEndHolding max input (Ok end) ahead left old held new now =
    FindsEnd max input (Ok end) ahead left × GrowsHolding old held new now []
FindsEndHolding max input (Err (Read fault)) ahead left old held new now = FindsEnd max input (Err fault) ahead left × Grows old new held
FindsEndHolding max input (Err Write) ahead left old held new now = LeavesPart input left × GrowsByFront old new held
FindsEndHolding max input (Err error) ahead left old held new now = ⊥

-- Holds if nothing is left, or for why that is unknown: the input continues (false), or reading stopped.
abbrev pub IsAllRead : List ℕ → Result Bool ReadFault → Option (List ℕ) → Type 0
IsAllRead input (Ok true) left = (input ≡ []) × (left ≡ Some [])
IsAllRead input (Ok false) left = (input ≢ []) × LeavesPart input left
IsAllRead input (Err read.Read) left = left ≡ Some input
IsAllRead input (Err read.Memory) left = LeavesPart input left
IsAllRead input (Err fault) left = ⊥

-- Holds if what is shown of a line was appended to the buffer; or a write failed within the buffer and what is shown;
-- or the buffer was written and an allocation failed, or the line is invalid.
abbrev pub AppendsShown : (List ℕ → Type 0) → (ShowError → Type 0) → Result (Unit {0}) ShowError → Option (List ℕ) → List ℕ
    → Option (List ℕ) → List ℕ → Type 0
AppendsShown Shown IsWhy (Ok _) old held new now = (shown : List ℕ) × Shown shown × GrowsHolding old held new now shown
AppendsShown Shown IsWhy (Err Write) old held new now =
    (more : List ℕ) × ((more ≡ []) ⊎ Shown more) × GrowsByFront old new (held ++ more)
AppendsShown Shown IsWhy (Err (Read read.Memory)) old held new now = Grows old new held
AppendsShown Shown IsWhy (Err error) old held new now = IsWhy error × Grows old new held

-- Holds if one line is read and what is shown of it is appended to the buffer, or the run stops.
abbrev pub ShowsNextLine : Bool → ℕ → ℕ → ℕ → List ℕ → Result Bool ShowError → Option (List ℕ) → Option (List ℕ) → List ℕ
    → Option (List ℕ) → List ℕ → Type 0
ShowsNextLine bare max depth number input (Ok true) left old held new now =
    (line after shown : List ℕ) × (input ≡ line ++ 10 ∷ after) × IsLine max line × ShowsLine bare max depth line shown
    × (left ≡ Some after) × GrowsHolding old held new now shown
ShowsNextLine bare max depth number input result left old held new now =
    StopsAt bare max depth number input held result left old new
