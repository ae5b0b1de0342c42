-- When a text passes, and where and why it fails (project-specific, over the runs of hsms_machine).
use Rattle.std.specs.Prelude.{◌≡◌, ◌+◌, ◌++◌, ◌⊎◌, ℕ, Bool, true, false, List, [], ◌∷◌, Option, Some, length, count_by, codes, decimal}
use Rattle.hsms_machine.specs.declared.entry.Entry.{Entry}
use Rattle.hsms_machine.specs.declared.entry.Event.{Event}
use Rattle.hsms_machine.specs.declared.entry.Event.TheVariants.{Sent, Taken, Discarded, T3}
use Rattle.hsms_machine.specs.Settings.{Parameters}
use Rattle.hsms_machine.specs.Transaction.{SentData}
use Rattle.hsms_machine.specs.Run.{Broken as IsFirstBroken, IsRun}
use Rattle.hsms_machine.specs.View.{open_of}
use Rattle.hsms_log.specs.declared.verdict.Why.{Why}
use Rattle.hsms_log.specs.declared.verdict.Why.TheVariants.{Unreadable, Broken}
use Rattle.hsms_log.specs.declared.verdict.Summary.{Summary}
use Rattle.hsms_log.specs.declared.verdict.Verdict.{Verdict}
use Rattle.hsms_log.specs.declared.verdict.Verdict.TheVariants.{Pass, Fail}
use Rattle.hsms_log.specs.Lines.{lines_of, ended_lines, open_line, IsOverlong}
use Rattle.hsms_log.specs.LineFormat.{EncodesSettings, Carries, settings_limit, line_limit}
use Rattle.hsms_log.specs.Log.{EncodesLog}

abbrev pub is_sent : Event → Bool
is_sent (Sent frame) = true
is_sent _ = false

abbrev pub is_taken : Event → Bool
is_taken (Taken frame) = true
is_taken _ = false

abbrev pub is_discarded : Event → Bool
is_discarded (Discarded frame) = true
is_discarded _ = false

abbrev pub is_expired : Event → Bool
is_expired (T3 system) = true
is_expired _ = false

-- How many entries of a log are of each kind, and how many sent data transactions are open after it.
abbrev pub summary_of : List Entry → Summary
summary_of log = record {
  entries = length log;
  sent = count_by (λ entry. is_sent entry.event) log;
  taken = count_by (λ entry. is_taken entry.event) log;
  discarded = count_by (λ entry. is_discarded entry.event) log;
  expired = count_by (λ entry. is_expired entry.event) log;
  waiting = length (open_of SentData log);
}

-- A count with its name, and the text before and after the name.
abbrev pub count_text : List ℕ → List ℕ → List ℕ → ℕ → List ℕ
count_text before name subsequent count = before ++ name ++ subsequent ++ decimal count

-- Each count of a summary.
abbrev pub counts_text : List ℕ → List ℕ → Summary → List ℕ
counts_text before subsequent s =
    count_text before (codes "entries") subsequent s.entries ++ (count_text before (codes "sent") subsequent s.sent
    ++ (count_text before (codes "taken") subsequent s.taken ++ (count_text before (codes "discarded") subsequent s.discarded
    ++ (count_text before (codes "expired") subsequent s.expired ++ count_text before (codes "waiting") subsequent s.waiting))))

-- Holds if the lines encode the settings and a run.
pub record EncodesRun (lines : List (List ℕ)) (s : Parameters) (log : List Entry) : Type 0 where
  pub encoded_bytes : EncodesLog lines s log
  pub run : IsRun s log

-- Holds if, after a run, the line is unreadable or contains an entry that breaks this rule.
abbrev pub FailsRun : Parameters → List Entry → List ℕ → Why → Type 0
FailsRun s log line Unreadable = (carried : Option Entry) → Carries s.max line carried → ⊥
FailsRun s log line (Broken rule) = (entry : Entry) × Carries s.max line (Some entry) × IsFirstBroken s log entry (Some rule)

-- Holds if the line fails after these lines, which do not fail. The first line fails if it encodes no settings.
abbrev pub FailsAfter : List (List ℕ) → List ℕ → Why → Type 0
FailsAfter [] line why = ((s : Parameters) → EncodesSettings line s → ⊥) × (why ≡ Unreadable)
FailsAfter (first ∷ others) line why =
    (s : Parameters) × (log : List Entry) × EncodesRun (first ∷ others) s log × FailsRun s log line why

-- Holds if the line with number n fails, and the lines before it do not.
abbrev pub LineFails : List (List ℕ) → ℕ → Why → Type 0
LineFails lines n why =
    (before : List (List ℕ)) × (line : List ℕ) × (after : List (List ℕ)) × (lines ≡ before ++ line ∷ after)
    × (n ≡ length before + 1) × FailsAfter before line why

-- Holds if line n fails. If there is no line, line 1 fails.
abbrev pub LinesFail : List (List ℕ) → ℕ → Why → Type 0
LinesFail lines n why = LineFails lines n why ⊎ ((lines ≡ []) × (n ≡ 1) × (why ≡ Unreadable))

-- Holds if the lines encode a run with this summary.
abbrev pub LinesPass : List (List ℕ) → Summary → Type 0
LinesPass lines summary = (s : Parameters) × (log : List Entry) × EncodesRun lines s log × (summary ≡ summary_of log)

-- Holds if the lines have this verdict.
abbrev pub LinesAudited : List (List ℕ) → Verdict → Type 0
LinesAudited lines (Pass summary) = LinesPass lines summary
LinesAudited lines (Fail n why) = LinesFail lines n why

-- Holds if the text fails at its line n.
abbrev pub Fails : List ℕ → ℕ → Why → Type 0
Fails text n why = LinesFail (lines_of text) n why

-- Holds if the text encodes a run with this summary.
abbrev pub Passes : List ℕ → Summary → Type 0
Passes text summary = LinesPass (lines_of text) summary

-- Holds if the complete text has this verdict.
abbrev pub HasAuditVerdict : List ℕ → Verdict → Type 0
HasAuditVerdict text verdict = LinesAudited (lines_of text) verdict

-- Holds if, after these lines, which do not fail, the next line is already too long.
abbrev pub OverlongAfter : List (List ℕ) → List ℕ → Type 0
OverlongAfter [] part = IsOverlong settings_limit part
OverlongAfter (first ∷ others) part =
    (s : Parameters) × (log : List Entry) × EncodesRun (first ∷ others) s log × IsOverlong (line_limit s.max) part

-- Holds if what was read of a text fails at line n: a line that has ended fails, or the next line is already too long.
abbrev pub FailsSoFar : List ℕ → ℕ → Why → Type 0
FailsSoFar text n why =
    LineFails (ended_lines text) n why
    ⊎ ((n ≡ length (ended_lines text) + 1) × (why ≡ Unreadable) × OverlongAfter (ended_lines text) (open_line text))

-- Holds if each text that begins with this one fails at line n.
abbrev pub FailsOnward : List ℕ → ℕ → Why → Type 0
FailsOnward text n why = (more : List ℕ) → Fails (text ++ more) n why
