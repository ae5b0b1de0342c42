-- State after a text that is processed in chunks, and at its end.
use Rattle.std.specs.Prelude.{◌≡◌, ◌+◌, ◌≤◌, ◌<◌, ◌⊎◌, ℕ, List, [], MatchOption, length, take}
use Rattle.hsms_machine.specs.declared.entry.Entry.{Entry}
use Rattle.hsms_log.specs.declared.verdict.Summary.{Summary}
use Rattle.hsms_log.specs.Lines.{ended_lines, open_line}
use Rattle.hsms_log.specs.Log.{EncodesLog}
use Rattle.hsms_log.specs.LineFormat.{settings_limit, line_limit}
use Rattle.cli_explain.specs.declared.explainer.Explainer.{Explainer}
use Rattle.explain_session.specs.declared.context.Known.{Known}
use Rattle.cli_explain.specs.declared.audit_state.Stage.{Stage}
use Rattle.cli_explain.specs.declared.audit_state.Stage.TheVariants.{Unjudged, Checked}
use Rattle.explain_statistics.specs.declared.failure_counts.Tally.{Tally}
use Rattle.explain_lines.specs.Counted.{counted}
use Rattle.explain_statistics.specs.EntryCounts.{counts_of}
use Rattle.explain_session.specs.Clock.{steady}
use Rattle.explain_session.specs.RepairedSession.{HasProgress}
use Rattle.explain_statistics.specs.InnerFirstFailure.{FailsFirst}
use Rattle.explain_session.specs.InnerRepairedLines.{ContinuesWith}

-- ---- lines

-- Holds if the log is checked after these lines, which encode a run.
abbrev pub Tracks : Known → Summary → List (List ℕ) → Type 0
Tracks known entries lines =
    (log : List Entry) × (placed : List Entry) × EncodesLog lines known.settings log × HasProgress known.settings log placed known.repaired_session
    × (known.repaired_session.line ≡ counted (length lines)) × (entries ≡ counts_of log) × (known.clock ≡ steady)

-- Holds if the log is checked after these lines, or if this is their first failure.
abbrev pub TracksOrFails : Known → Tally → List (List ℕ) → Type 0
TracksOrFails known tally lines = MatchOption tally.first (Tracks known tally.entries lines) (FailsFirst lines)

-- Holds if the log is checked after these lines or this is their first failure, and the repaired log continues after a
-- failure.
abbrev pub KnownAfter : Known → Tally → List (List ℕ) → Type 0
KnownAfter known tally lines = TracksOrFails known tally lines × ContinuesWith known lines

-- Holds if no line was processed, or if this is the first failure.
abbrev pub BeginsOrFails : ℕ → Tally → List (List ℕ) → Type 0
BeginsOrFails before tally lines =
    MatchOption tally.first ((lines ≡ []) × (before ≡ 0) × (tally.entries ≡ counts_of [])) (FailsFirst lines)

-- Holds if no line was processed or this is the first failure, after this number of lines.
abbrev pub UnjudgedAfter : ℕ → Tally → List (List ℕ) → Type 0
UnjudgedAfter before tally lines = BeginsOrFails before tally lines × (before ≡ counted (length lines))

-- Holds if no line was processed, the log is checked, or this is the first failure.
abbrev pub ProcessedAfter : Stage → Tally → List (List ℕ) → Type 0
ProcessedAfter (Unjudged before) tally lines = UnjudgedAfter before tally lines
ProcessedAfter (Checked known) tally lines = KnownAfter known tally lines

-- The maximum length of the next line, without its line ending.
abbrev pub limit_at : Stage → ℕ
limit_at (Unjudged before) = settings_limit
limit_at (Checked known) = line_limit known.settings.max

-- Holds if this part of a line is passed on: the complete line, or, if it is too long, a prefix that is also too long.
abbrev pub IsShown : ℕ → List ℕ → List ℕ → Type 0
IsShown limit line shown = (line ≡ shown) ⊎ ((limit < length line) × (limit < length shown))

-- ---- a text

-- Holds if the ended lines of the text are processed, and of the incomplete line no more is buffered than makes it too
-- long.
pub record HasProcessed (explainer : Explainer) (text : List ℕ) : Type 0 where
  pub lines : ProcessedAfter explainer.stage explainer.report.tally (ended_lines text)
  pub held : explainer.held.items ≡ take (limit_at explainer.stage + 2) (open_line text)
  pub few : length (ended_lines text) ≤ length text
