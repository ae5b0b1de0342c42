-- The entries that readers return.
use Rattle.std.specs.Prelude.{◌≡◌, List, [], ◌∷◌, Option, Some, None}
use Rattle.hsms_compare.specs.declared.reading.NumberedEntry.{NumberedEntry}
use Rattle.hsms_compare.specs.Conversation.{Line}

abbrev pub line_of : NumberedEntry → Line
line_of next = record { position = next.position; entry = next.entry }

-- Holds if the next entry was read, or there is none.
abbrev pub IsRead : List Line → Option NumberedEntry → List Line → Type 0
IsRead old None new = (old ≡ []) × (new ≡ [])
IsRead old (Some next) new = old ≡ line_of next ∷ new

-- The entry that was read and is not merged.
abbrev pub pending : Option NumberedEntry → List Line
pending None = []
pending (Some next) = line_of next ∷ []
