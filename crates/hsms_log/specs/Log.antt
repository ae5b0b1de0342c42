-- The log that lines encode (project-specific log text).
use Rattle.std.specs.Prelude.{◌≡◌, ◌++◌, ℕ, List, [], ◌∷◌, Option, option_to_list}
use Rattle.std.specs.List.{flat_map}
use Rattle.hsms_machine.specs.declared.entry.Entry.{Entry}
use Rattle.hsms_machine.specs.Settings.{Parameters}
use Rattle.hsms_log.specs.Lines.{lines_of}
use Rattle.hsms_log.specs.LineFormat.{EncodesSettings, Carries, settings_line, entry_line}

-- Holds if each line is readable, and the lines with entries contain the log's entries, in order.
abbrev pub CarryLog : ℕ → List (List ℕ) → List Entry → Type 0
CarryLog max [] log = log ≡ []
CarryLog max (line ∷ lines) log =
    (carried : Option Entry) × (later : List Entry) × Carries max line carried × CarryLog max lines later
    × (log ≡ option_to_list carried ++ later)

-- Holds if the first line encodes the settings, and the others contain the log.
abbrev pub EncodesLog : List (List ℕ) → Parameters → List Entry → Type 0
EncodesLog [] s log = ⊥
EncodesLog (first ∷ others) s log = EncodesSettings first s × CarryLog s.max others log

-- Holds if the text encodes the settings and the log.
abbrev pub LogText : List ℕ → Parameters → List Entry → Type 0
LogText text s log = EncodesLog (lines_of text) s log

-- A log as it is written: each line ends with a line feed.
abbrev pub written_log : Parameters → List Entry → List ℕ
written_log s log = settings_line s ++ 10 ∷ flat_map (λ entry. entry_line entry ++ 10 ∷ []) log
