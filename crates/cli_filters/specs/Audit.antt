-- What `hsms audit` returns for an input, and what it writes.
use Rattle.std.specs.Prelude.{◌≡◌, ◌≤◌, ◌+◌, ℕ, List, codes, Option, Result, Ok, Err, IfOk}
use Rattle.std.specs.Bool.{OnTrue}
use Rattle.hsms_frame.specs.CallCounts.{next_count}
use Rattle.hsms_frame.specs.Io.{SourceState, Stays, Grows, GrowsByFront}
use Rattle.hsms_log.specs.declared.fault.AuditFault.TheVariants as log
use Rattle.hsms_log.specs.declared.verdict.Verdict.{Verdict}
use Rattle.hsms_log.specs.Auditing.{AuditsAs, HasEnded, RisesBy}
use Rattle.cli_output.specs.Verdict.{is_pass, verdict_line_of}
use Rattle.cli_filters.specs.declared.audit_error.AuditError.{AuditError}
use Rattle.cli_filters.specs.declared.audit_error.AuditError.TheVariants.{Log, Write}

-- The name of an error.
abbrev pub audit_error_text : AuditError → List ℕ
audit_error_text (Log log.Read) = codes "Read"
audit_error_text (Log log.Endless) = codes "Endless"
audit_error_text (Log log.Memory) = codes "Memory"
audit_error_text Write = codes "Write"

-- The results for an input, if each verdict is written as this text. Each has what is left of the input, whether its end
-- was found, and what was written before and is now: the complete text, a part of it if the write failed, otherwise
-- nothing.
abbrev pub AuditsAsText : (Verdict → List ℕ) → List ℕ → Result Verdict AuditError → Option (List ℕ) → Type 0 → Option (List ℕ) → Option (List ℕ) → Type 0
AuditsAsText text_of input (Ok verdict) left ended old new =
    AuditsAs input (Ok verdict) left ended × Grows old new (text_of verdict)
AuditsAsText text_of input (Err (Log fault)) left ended old new = AuditsAs input (Err fault) left ended × Stays old new
AuditsAsText text_of input (Err Write) left ended old new =
    (verdict : Verdict) × AuditsAs input (Ok verdict) left ended × GrowsByFront old new (text_of verdict)

-- The results for an input, if the line of each verdict is written.
abbrev pub AuditsTo : List ℕ → Result Verdict AuditError → Option (List ℕ) → Type 0 → Option (List ℕ) → Option (List ℕ) → Type 0
AuditsTo = AuditsAsText verdict_line_of

-- How often a source has failed, by the result.
abbrev pub reads_after : {T : Type 0} → Result T AuditError → ℕ → ℕ
reads_after (Err (Log log.Read)) n = next_count n
reads_after result n = n

-- How often a sink has failed, by the result.
abbrev pub writes_after : {T : Type 0} → Result T AuditError → ℕ → ℕ
writes_after (Err Write) n = next_count n
writes_after result n = n

-- How an audit changes the counts of its source. A pass found the end, and Endless used all reads. Each read was into a
-- slice with capacity, and one failed exactly if the result says so.
pub record CountsVerdict (result : Result Verdict AuditError) (old new : SourceState) : Type 0 where
  pub pass : IfOk result (λ verdict. OnTrue (is_pass verdict) (HasEnded old.ends new.ends))
  pub endless : result ≡ Err (Log log.Endless) → RisesBy old.pulls new.pulls 4294967295 × (new.ends ≡ old.ends)
  pub pulls : new.pulls ≤ old.pulls + 4294967295
  pub empty_pulls : new.empty_pulls ≡ old.empty_pulls
  pub reads : new.failures ≡ reads_after result old.failures
