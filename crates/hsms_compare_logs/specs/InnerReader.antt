-- What only contracts of private functions use, besides the definitions of `Reader`.
use Rattle.std.specs.Prelude.{◌≡◌, ◌+◌, ◌<◌, ◌≤◌, ◌++◌, ℕ, Bool, true, false, List, ◌∷◌, Some, None, length}
use Rattle.hsms_log.specs.LineFormat.{Carries}
use Rattle.hsms_log.specs.Lines.{HasNone}
use Rattle.hsms_compare_logs.specs.declared.read_entry.Content.{Content}
use Rattle.hsms_compare_logs.specs.declared.read_entry.Content.TheVariants.{Unreadable, Blank, Entry}
use Rattle.hsms_compare_logs.specs.declared.input.InputLine.{InputLine}
use Rattle.hsms_compare_logs.specs.declared.input.InputLine.TheVariants.{Ended, Last, TooLong}
use Rattle.hsms_compare_logs.specs.LogEntries.{IsUnreadable}

-- The content of a line.
abbrev pub IsContent : ℕ → List ℕ → Content → Type 0
IsContent max line Unreadable = IsUnreadable max line
IsContent max line Blank = Carries max line None
IsContent max line (Entry entry) = Carries max line (Some entry)

-- Holds if the bytes of a block before its first line feed were moved, and the line feed was removed.
abbrev pub TakesLine : (block held block' held' : List ℕ) → Bool → Type 0
TakesLine block held block' held' true =
    (part : List ℕ) × (block ≡ part ++ 10 ∷ block') × (held' ≡ held ++ part) × HasNone 10 part
TakesLine block held block' held' false = (block' ≡ block) × (held' ≡ held ++ block) × HasNone 10 block

-- The first line of a text, and what follows it.
abbrev pub IsLine : ℕ → List ℕ → InputLine → List ℕ → Type 0
IsLine limit text (Ended line) left = (text ≡ line.items ++ 10 ∷ left) × HasNone 10 line.items
IsLine limit text (Last line) left = (text ≡ line.items) × HasNone 10 line.items
IsLine limit text TooLong left =
    (line : List ℕ) × (more : List ℕ) × (text ≡ line ++ more) × HasNone 10 line × (limit + 1 < length line)

-- Holds if a line that ended is a byte of these.
abbrev pub Shrinks : ℕ → ℕ → InputLine → Type 0
Shrinks old new (Ended line) = new < old
Shrinks old new (Last line) = new ≤ old
Shrinks old new TooLong = Unit {0}
