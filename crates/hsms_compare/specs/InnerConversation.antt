-- What only contracts of private functions use, besides the definitions of `Conversation`.
use Rattle.std.specs.Prelude.{◌+◌, ℕ, List, [], ◌∷◌}
use Rattle.hsms_machine.specs.declared.entry.Entry.{Entry}
use Rattle.hsms_compare.specs.Conversation.{Line}

-- ---- with positions

-- A log whose entries are counted from a position on.
abbrev pub numbered : ℕ → List Entry → List Line
numbered position [] = []
numbered position (entry ∷ log) = record { position = position; entry = entry } ∷ numbered (position + 1) log
