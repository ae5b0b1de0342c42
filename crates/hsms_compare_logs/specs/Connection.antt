-- For private contracts: what is left of the first connection of a log.
use Rattle.std.specs.Prelude.{◌≡◌, ◌++◌, ℕ, Bool, false, not, ◌&&◌, List, [], ◌∷◌, Option, Some, None}
use Rattle.hsms_machine.specs.Entry.{is_down}
use Rattle.hsms_machine.specs.Settings.{Parameters}
use Rattle.hsms_compare.specs.Conversation.{Line}
use Rattle.hsms_compare.specs.declared.reading.NumberedEntry.{NumberedEntry}
use Rattle.hsms_compare.specs.Readings.{line_of}
use Rattle.hsms_compare_logs.specs.LogEntries.{HasEntries, connection_of, has_later_connections, has_up, is_open_connection, may_continue, until_up, up_line}
use Rattle.hsms_compare_logs.specs.declared.log_record.LogRecord.{LogRecord}
use Rattle.hsms_compare_logs.specs.Entries.{AreLeft}
use Rattle.hsms_compare_logs.specs.Records.{HasRecordOf}

-- Holds if these lines are left of the first connection, whether it may have more after them, and whether connections
-- follow it: the next line, which was read, and those that follow it.
abbrev pub LogLeft : List ℕ → Option (List ℕ) → ℕ → ℕ → Bool → Option NumberedEntry → (down followed : Bool) → List Line → (more others : Bool) → Type 0
LogLeft block left max count ended None down followed lines more others =
    (lines ≡ []) × (more ≡ (not followed && not down)) × (others ≡ followed)
LogLeft block left max count ended (Some next) down followed lines more others =
    (found : List Line) × (followed ≡ false) × AreLeft block left max count ended found
    × (lines ≡ line_of next ∷ until_up found) × (more ≡ may_continue (is_down next.entry.event) found) × (others ≡ has_up found)

-- Holds if a log with these entries is read: the line of its first `up`, what is kept of the lines that were returned, and
-- what is left of the first connection.
abbrev pub ReadsEntries : List ℕ → Option (List ℕ) → ℕ → ℕ → Bool → Option NumberedEntry → (down followed : Bool) → Option ℕ → LogRecord → List Line → Type 0
ReadsEntries block left max count ended next down followed up kept found =
    (up ≡ up_line found) × (done : List Line) × (rest : List Line) × (connection_of found ≡ done ++ rest) × HasRecordOf done kept
    × LogLeft block left max count ended next down followed rest (is_open_connection found) (has_later_connections found)

-- The same of each list of entries that the text has.
abbrev pub ReadsConnection : List ℕ → List ℕ → Option (List ℕ) → ℕ → ℕ → Bool → Option NumberedEntry → (down followed : Bool) → Option ℕ → LogRecord → Type 0
ReadsConnection text block left max count ended next down followed up kept =
    (s : Parameters) (found : List Line) → HasEntries text s found → ReadsEntries block left max count ended next down followed up kept found
