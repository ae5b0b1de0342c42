-- The first failure, and its verdict.
use Rattle.std.specs.Prelude.{ℕ, Option, Some, None}
use Rattle.hsms_log.specs.declared.verdict.Why.{Why}
use Rattle.hsms_log.specs.declared.verdict.Why.TheVariants.{Unreadable}
use Rattle.hsms_log.specs.declared.verdict.Summary.{Summary}
use Rattle.hsms_log.specs.declared.verdict.Verdict.{Verdict}
use Rattle.hsms_log.specs.declared.verdict.Verdict.TheVariants.{Pass, Fail}
use Rattle.explain_statistics.specs.declared.failure_counts.Failed.{Failed}

-- A failure at a line, if there is one.
abbrev pub failed_at : ℕ → Option Why → Option Failed
failed_at line None = None
failed_at line (Some why) = Some (record { line = line; why = why })

-- The verdict of the first failure; without one, a pass with the counts of the entries and of the waiting primaries.
abbrev pub verdict_by : Option Failed → Summary → ℕ → Verdict
verdict_by (Some failed) entries waiting = Fail failed.line failed.why
verdict_by None entries waiting = Pass (record entries { waiting = waiting })

-- The verdict on a log that was not checked: line 1 is unreadable, or the log has no lines.
abbrev pub unjudged_by : Option Failed → Verdict
unjudged_by (Some failed) = Fail failed.line failed.why
unjudged_by None = Fail 1 Unreadable
