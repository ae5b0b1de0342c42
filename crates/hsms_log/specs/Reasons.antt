-- The column at which a line cannot be read.
use Rattle.std.specs.Prelude.{◌≤◌, ◌+◌, ℕ, List, length}
use Rattle.hsms_log.specs.declared.reasons.Unreadable.{Unreadable}

-- Holds if the column is that of a byte of the line, or one past the last byte.
abbrev pub IsWithin : List ℕ → Unreadable → Type 0
IsWithin line it = (1 ≤ it.column) × (it.column ≤ length line + 1)
