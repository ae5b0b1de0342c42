-- For private contracts: the entries that are left of a log.
use Rattle.std.specs.Prelude.{◌≡◌, ◌+◌, ◌++◌, ℕ, Bool, true, false, List, [], Option, Some}
use Rattle.hsms_log.specs.Lines.{ended_lines, open_line}
use Rattle.hsms_compare.specs.Conversation.{Line}
use Rattle.hsms_compare_logs.specs.Audited.{AuditState}
use Rattle.hsms_compare_logs.specs.LogEntries.{AreEntries}
use Rattle.hsms_compare_logs.specs.Reader.{room}

-- The entries of a text whose first line has this number.
abbrev pub AreOfText : ℕ → ℕ → List ℕ → List Line → Type 0
AreOfText max number text found = AreEntries max number (ended_lines text) (open_line text) found

-- The entries that are left of a log: of a block, and of what the source has left.
abbrev pub AreLeft : List ℕ → Option (List ℕ) → ℕ → ℕ → Bool → List Line → Type 0
AreLeft block left max lines true found = found ≡ []
AreLeft block left max lines false found =
    (octets : List ℕ) × (left ≡ Some octets) × AreOfText max (lines + 1) (block ++ octets) found

-- No more than this many entries are left.
abbrev pub most_left : List ℕ → AuditState → Bool → ℕ
most_left block audit true = 0
most_left block audit false = room block audit + 1
