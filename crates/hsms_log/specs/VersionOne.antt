-- The audit of a text of version 1, without the concepts of versions and connections (project-specific). A law states
-- that each text which encodes no settings of version 2 is audited this way.
use Rattle.std.specs.Prelude.{◌≡◌, ◌≢◌, ◌≤◌, ◌+◌, ◌++◌, ◌⊎◌, ℕ, List, [], ◌∷◌, Option, Some, length, codes, decimal}
use Rattle.std.specs.List.{filter_map, join_with_byte}
use Rattle.hsms_machine.specs.declared.entry.Entry.{Entry}
use Rattle.hsms_machine.specs.Settings.{Parameters, IsWithinLimits}
use Rattle.hsms_machine.specs.Transaction.{SentData, opened_as}
use Rattle.hsms_machine.specs.SingleConnection.{BrokenOfOne, IsRunOfOne}
use Rattle.hsms_machine.specs.View.{open_entries}
use Rattle.hsms_log.specs.declared.verdict.Why.{Why}
use Rattle.hsms_log.specs.declared.verdict.Why.TheVariants.{Unreadable, Broken}
use Rattle.hsms_log.specs.declared.verdict.Summary.{Summary}
use Rattle.hsms_log.specs.declared.verdict.Verdict.{Verdict}
use Rattle.hsms_log.specs.declared.verdict.Verdict.TheVariants.{Pass, Fail}
use Rattle.hsms_log.specs.Lines.{lines_of}
use Rattle.hsms_log.specs.LineFormat.{EncodesSettings, Carries, settings_limit, role_word, link_word}
use Rattle.hsms_log.specs.Log.{CarryLog}
use Rattle.hsms_log.specs.Verdict.{summary_of}

-- The only line that encodes the settings.
unfoldable pub settings_line_of_one : Parameters → List ℕ
settings_line_of_one s =
    join_with_byte 32
    (codes "hsms-log" ∷ codes "1" ∷ role_word s.role ∷ link_word s.link ∷ decimal s.device
    ∷ decimal s.t3 ∷ decimal s.t6 ∷ decimal s.t7 ∷ decimal s.t8 ∷ decimal s.max ∷ decimal s.depth ∷ [])

-- Holds if the line encodes the settings.
pub record EncodesSettingsOfOne (line : List ℕ) (s : Parameters) : Type 0 where
  pub version : s.version ≡ 1
  pub within : IsWithinLimits s
  pub fits : length line ≤ settings_limit
  pub encoded_bytes : line ≡ settings_line_of_one s

-- Holds if the first line encodes the settings, and the others contain the log.
abbrev pub EncodesLogOfOne : List (List ℕ) → Parameters → List Entry → Type 0
EncodesLogOfOne [] s log = ⊥
EncodesLogOfOne (first ∷ others) s log = EncodesSettingsOfOne first s × CarryLog s.max others log

-- Holds if the lines encode the settings and a run.
pub record EncodesRunOfOne (lines : List (List ℕ)) (s : Parameters) (log : List Entry) : Type 0 where
  pub encoded_bytes : EncodesLogOfOne lines s log
  pub run : IsRunOfOne s log

-- How many entries of a log are of each kind, and how many entries opened sent data that no later entry closes.
abbrev pub summary_of_one : List Entry → Summary
summary_of_one log = record (summary_of log) { waiting = length (filter_map (opened_as SentData) (open_entries log)) }

-- Holds if, after a run, the line is unreadable or contains an entry that breaks this rule.
abbrev pub FailsRunOfOne : Parameters → List Entry → List ℕ → Why → Type 0
FailsRunOfOne s log line Unreadable = (carried : Option Entry) → Carries s.max line carried → ⊥
FailsRunOfOne s log line (Broken rule) = (entry : Entry) × Carries s.max line (Some entry) × BrokenOfOne s log entry (Some rule)

-- Holds if the line fails after these lines, which do not fail. The first line fails if it encodes no settings.
abbrev pub FailsAfterOfOne : List (List ℕ) → List ℕ → Why → Type 0
FailsAfterOfOne [] line why = ((s : Parameters) → EncodesSettingsOfOne line s → ⊥) × (why ≡ Unreadable)
FailsAfterOfOne (first ∷ others) line why =
    (s : Parameters) × (log : List Entry) × EncodesRunOfOne (first ∷ others) s log × FailsRunOfOne s log line why

-- Holds if the line with number n fails, and the lines before it do not.
abbrev pub LineFailsOfOne : List (List ℕ) → ℕ → Why → Type 0
LineFailsOfOne lines n why =
    (before : List (List ℕ)) × (line : List ℕ) × (after : List (List ℕ)) × (lines ≡ before ++ line ∷ after)
    × (n ≡ length before + 1) × FailsAfterOfOne before line why

-- Holds if the lines encode a run with this summary.
abbrev pub LinesPassOfOne : List (List ℕ) → Summary → Type 0
LinesPassOfOne lines summary =
    (s : Parameters) × (log : List Entry) × EncodesRunOfOne lines s log × (summary ≡ summary_of_one log)

-- Holds if the lines have this verdict. If there is no line, line 1 fails.
abbrev pub LinesAuditedOfOne : List (List ℕ) → Verdict → Type 0
LinesAuditedOfOne lines (Pass summary) = LinesPassOfOne lines summary
LinesAuditedOfOne lines (Fail n why) = LineFailsOfOne lines n why ⊎ ((lines ≡ []) × (n ≡ 1) × (why ≡ Unreadable))

-- Holds if the complete text has this verdict.
abbrev pub HasAuditVerdictOfOne : List ℕ → Verdict → Type 0
HasAuditVerdictOfOne text verdict = LinesAuditedOfOne (lines_of text) verdict

-- Holds if the first line encodes no settings of version 2.
abbrev pub EncodesNoVersionTwo : List (List ℕ) → Type 0
EncodesNoVersionTwo [] = Unit {0}
EncodesNoVersionTwo (first ∷ others) = (s : Parameters) → EncodesSettings first s → s.version ≢ 2
