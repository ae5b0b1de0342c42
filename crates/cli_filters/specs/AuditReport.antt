-- What `hsms audit` writes of several logs, and what it counts.
use Rattle.std.specs.Prelude.{◌++◌, ◌&&◌, ℕ, Bool, List, [], ◌∷◌, codes, decimal, nat_lt, Option, Some, None, Result, Ok, Err, if◌then◌else◌}
use Rattle.hsms_frame.specs.CallCounts.{next_count}
use Rattle.hsms_log.specs.declared.verdict.Verdict.{Verdict}
use Rattle.hsms_log.specs.declared.verdict.Verdict.TheVariants.{Pass, Fail}
use Rattle.cli_output.specs.Verdict.{is_pass, verdict_line_of}
use Rattle.cli_filters.specs.declared.audit_error.AuditError.{AuditError}
use Rattle.cli_filters.specs.declared.audit_report.AuditReport.{AuditReport}

-- The name of a file before the verdict on its log, if it is given.
abbrev pub label_of : Option (List ℕ) → List ℕ
label_of None = []
label_of (Some name) = name ++ codes ": "

-- The line of a log. If only the lines of failing logs are written, a pass has none.
abbrev pub report_line : Bool → Option (List ℕ) → Verdict → List ℕ
report_line quiet name verdict = if quiet && is_pass verdict then [] else label_of name ++ verdict_line_of verdict

-- A report after one more verdict.
abbrev pub after_verdict : AuditReport → Verdict → AuditReport
after_verdict report (Pass summary) = record report { passed = next_count report.passed }
after_verdict report (Fail line why) = record report { failed = next_count report.failed }

-- A report after one more audit.
abbrev pub after_audit : AuditReport → Result Verdict AuditError → AuditReport
after_audit report (Ok verdict) = after_verdict report verdict
after_audit report (Err error) = report

-- The last line: the counts. It is left out if only the lines of failing logs are written.
abbrev pub counts_line : AuditReport → List ℕ
counts_line report =
    if report.quiet then []
    else codes "logs passed=" ++ decimal report.passed ++ codes " failed=" ++ decimal report.failed
    ++ codes " unopened=" ++ decimal report.unopened ++ 10 ∷ []

-- The status: 2 if a file cannot be opened, otherwise 1 if a log fails, otherwise 0.
abbrev pub report_status : AuditReport → ℕ
report_status report = if nat_lt 0 report.unopened then 2 else (if nat_lt 0 report.failed then 1 else 0)
