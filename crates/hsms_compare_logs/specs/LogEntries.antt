-- The entries of a log that are compared (project-specific).
use Rattle.std.specs.Prelude.{◌≡◌, ◌+◌, ◌++◌, ◌⊎◌, ℕ, Bool, true, false, not, List, [], ◌∷◌, Option, Some, None, if◌then◌else◌}
use Rattle.std.specs.Str.Lines.{strip_carriage_return}
use Rattle.hsms_machine.specs.declared.entry.Entry.{Entry}
use Rattle.hsms_machine.specs.declared.entry.Event.{Event}
use Rattle.hsms_machine.specs.declared.entry.Event.TheVariants.{Sent, Taken, Discarded}
use Rattle.hsms_machine.specs.Entry.{is_up, is_down}
use Rattle.hsms_machine.specs.Settings.{Parameters}
use Rattle.hsms_log.specs.Lines.{ended_lines, open_line}
use Rattle.hsms_log.specs.LineFormat.{Carries, EncodesSettings}
use Rattle.hsms_compare.specs.Conversation.{Line}

-- ---- the entries of a text

-- Holds if the line is no entry, comment or empty line, or exceeds its limit.
abbrev pub IsUnreadable : ℕ → List ℕ → Type 0
IsUnreadable max line = (carried : Option Entry) → Carries max line carried → ⊥

-- The entry of a line, with the line's number.
abbrev pub at_line : ℕ → Option Entry → List Line
at_line number None = []
at_line number (Some entry) = record { position = number; entry = entry } ∷ []

abbrev pub has_frame : Event → Bool
has_frame (Sent frame) = true
has_frame (Taken frame) = true
has_frame (Discarded frame) = true
has_frame _ = false

-- An entry that has no frame.
abbrev pub without_frame : Option Entry → Option Entry
without_frame None = None
without_frame (Some entry) = if has_frame entry.event then None else Some entry

-- The entries of what follows the last line feed. A frame may be cut off there, so it does not count.
abbrev pub AreLastEntries : ℕ → ℕ → List ℕ → List Line → Type 0
AreLastEntries max number [] found = found ≡ []
AreLastEntries max number (octet ∷ octets) found =
    (IsUnreadable max (strip_carriage_return (octet ∷ octets)) × (found ≡ []))
    ⊎ ((carried : Option Entry) × Carries max (strip_carriage_return (octet ∷ octets)) carried × (found ≡ at_line number (without_frame carried)))

-- The entries of lines, the first of which has this number, and of what follows the last line feed: those before the
-- first unreadable line.
abbrev pub AreEntries : ℕ → ℕ → List (List ℕ) → List ℕ → List Line → Type 0
AreEntries max number [] last found = AreLastEntries max number last found
AreEntries max number (line ∷ lines) last found =
    (IsUnreadable max line × (found ≡ []))
    ⊎ ((carried : Option Entry) × (later : List Line) × Carries max line carried × AreEntries max (number + 1) lines last later
    × (found ≡ at_line number carried ++ later))

-- Holds if the first of a log's lines encodes these settings.
abbrev pub HaveSettings : List (List ℕ) → List ℕ → Parameters → Type 0
HaveSettings [] last s = EncodesSettings (strip_carriage_return last) s
HaveSettings (first ∷ lines) last s = EncodesSettings first s

-- Holds if the first line of the text encodes these settings.
abbrev pub HasSettings : List ℕ → Parameters → Type 0
HasSettings text s = HaveSettings (ended_lines text) (open_line text) s

-- The settings and the entries of a log's lines.
abbrev pub HaveEntries : List (List ℕ) → List ℕ → Parameters → List Line → Type 0
HaveEntries [] last s found = EncodesSettings (strip_carriage_return last) s × (found ≡ [])
HaveEntries (first ∷ lines) last s found = EncodesSettings first s × AreEntries s.max 2 lines last found

-- Holds if the text begins with these settings, and these are its entries before the first unreadable line.
abbrev pub HasEntries : List ℕ → Parameters → List Line → Type 0
HasEntries text s found = HaveEntries (ended_lines text) (open_line text) s found

-- ---- one connection

-- The entries before the next `up`.
abbrev pub until_up : List Line → List Line
until_up [] = []
until_up (line ∷ lines) = if is_up line.entry.event then [] else line ∷ until_up lines

-- The entries after the first `up`.
abbrev pub after_up : List Line → List Line
after_up [] = []
after_up (line ∷ lines) = if is_up line.entry.event then lines else after_up lines

-- The entries of the first connection.
abbrev pub connection_of : List Line → List Line
connection_of lines = until_up (after_up lines)

-- True if a connection may have more entries than these of its log: no `up` follows, and the last one is not `down`.
-- The argument is true if the entry before these is `down`.
abbrev pub may_continue : Bool → List Line → Bool
may_continue down [] = not down
may_continue down (line ∷ lines) = if is_up line.entry.event then false else may_continue (is_down line.entry.event) lines

abbrev pub is_open_connection : List Line → Bool
is_open_connection lines = may_continue false (after_up lines)

-- True if an `up` is among these entries.
abbrev pub has_up : List Line → Bool
has_up [] = false
has_up (line ∷ lines) = if is_up line.entry.event then true else has_up lines

-- True if connections follow the first one.
abbrev pub has_later_connections : List Line → Bool
has_later_connections lines = has_up (after_up lines)

-- The position of the first `up`.
abbrev pub up_line : List Line → Option ℕ
up_line [] = None
up_line (line ∷ lines) = if is_up line.entry.event then Some line.position else up_line lines
