-- What only contracts of private functions use, besides the definitions of `Entries`.
use Rattle.std.specs.Prelude.{◌≡◌, ◌+◌, ℕ, List, [], ◌∷◌}
use Rattle.hsms_compare.specs.Conversation.{Line}
use Rattle.hsms_compare.specs.Readings.{line_of}
use Rattle.hsms_compare_logs.specs.declared.line_read.LineRead.{LineRead}
use Rattle.hsms_compare_logs.specs.declared.line_read.LineRead.TheVariants.{Blank, Entry, Last, End}
use Rattle.hsms_compare_logs.specs.declared.input.InputLine.{InputLine}
use Rattle.hsms_compare_logs.specs.declared.input.InputLine.TheVariants as input
use Rattle.hsms_compare_logs.specs.Entries.{AreOfText}

-- The result of the line with this number, if this text follows it.
abbrev pub IsLineRead : ℕ → ℕ → List ℕ → List Line → LineRead → Type 0
IsLineRead max number left found Blank = AreOfText max (number + 1) left found
IsLineRead max number left found (Entry next) = (later : List Line) × (found ≡ line_of next ∷ later) × AreOfText max (number + 1) left later
IsLineRead max number left found (Last next) = found ≡ line_of next ∷ []
IsLineRead max number left found End = found ≡ []

-- Holds if no entries follow.
abbrev pub IsLast : LineRead → Type 0
IsLast Blank = ⊥
IsLast (Entry next) = ⊥
IsLast (Last next) = Unit {0}
IsLast End = Unit {0}

-- Holds if entries follow only a line that a line feed ends.
abbrev pub FollowsLine : InputLine → LineRead → Type 0
FollowsLine (input.Ended line) read = Unit {0}
FollowsLine (input.Last line) read = IsLast read
FollowsLine input.TooLong read = IsLast read
