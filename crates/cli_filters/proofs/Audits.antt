-- What an audit counts, and what is written of its verdict.
use Rattle.std.proofs.Common.{◌≡◌, List, ℕ, Ok, Err, subst}
use Rattle.std.specs.Prelude.{Option}
use Rattle.hsms_frame.specs.Io.{SourceState, Grows, GrowsByFront}
use Rattle.hsms_log.specs.declared.fault.AuditFault.{AuditFault}
use Rattle.hsms_log.specs.declared.fault.AuditFault.TheVariants as log
use Rattle.hsms_log.specs.Auditing.{AuditsAs, CountsAudit}
use Rattle.hsms_log.specs.declared.verdict.Verdict.{Verdict}
use Rattle.hsms_log.specs.declared.verdict.Verdict.TheVariants.{Pass, Fail}
use Rattle.cli_filters.specs.Audit.{AuditsAsText, CountsVerdict}
use Rattle.cli_filters.specs.declared.audit_error.AuditError.TheVariants.{Log, Write}

-- There is no verdict, and nothing was written.
pub stops_unjudged : (text_of : Verdict → List ℕ) (input : List ℕ) (fault : AuditFault) (left : Option (List ℕ)) (ended : Type 0) (written : Option (List ℕ))
    → AuditsAs input (Err fault) left ended → AuditsAsText text_of input (Err (Log fault)) left ended written written
stops_unjudged text_of input fault left ended written audits = (audits, (λ octets known_input. known_input))

-- The line of a verdict was not written completely.
pub stops_unwritten : (text_of : Verdict → List ℕ) (input : List ℕ) (verdict : Verdict) (line : List ℕ) (left : Option (List ℕ)) (ended : Type 0) (old new : Option (List ℕ))
    → AuditsAs input (Ok verdict) left ended → line ≡ text_of verdict → GrowsByFront old new line
    → AuditsAsText text_of input (Err Write) left ended old new
stops_unwritten text_of input verdict line left ended old new audits is grows =
    let P : List ℕ → Type 0 = λ l. GrowsByFront old new l in (verdict, audits, subst P is grows)

-- The line of a verdict was written completely.
pub answers_written : (text_of : Verdict → List ℕ) (input : List ℕ) (verdict : Verdict) (line : List ℕ) (left : Option (List ℕ)) (ended : Type 0) (old new : Option (List ℕ))
    → AuditsAs input (Ok verdict) left ended → line ≡ text_of verdict → Grows old new line
    → AuditsAsText text_of input (Ok verdict) left ended old new
answers_written text_of input verdict line left ended old new audits is grows =
    let P : List ℕ → Type 0 = λ l. Grows old new l in (audits, subst P is grows)

-- ---- what is counted

pub counts_written : (verdict : Verdict) (old new : SourceState) → CountsAudit 4294967295 (Ok verdict) old new → CountsVerdict (Ok verdict) old new
counts_written (Pass summary) old new c =
    record { pass = c.uses; endless = (λ is. cc); pulls = c.pulls; empty_pulls = c.empty_pulls; reads = c.failures }
counts_written (Fail n why) old new c =
    record { pass = tt; endless = (λ is. cc); pulls = c.pulls; empty_pulls = c.empty_pulls; reads = c.failures }

pub counts_unlined : (verdict : Verdict) (old new : SourceState) → CountsAudit 4294967295 (Ok verdict) old new → CountsVerdict (Err (Log log.Memory)) old new
counts_unlined verdict old new c =
    record { pass = tt; endless = (λ is. cc); pulls = c.pulls; empty_pulls = c.empty_pulls; reads = c.failures }

pub counts_unwritten : (verdict : Verdict) (old new : SourceState) → CountsAudit 4294967295 (Ok verdict) old new → CountsVerdict (Err Write) old new
counts_unwritten verdict old new c =
    record { pass = tt; endless = (λ is. cc); pulls = c.pulls; empty_pulls = c.empty_pulls; reads = c.failures }

pub counts_unjudged : (fault : AuditFault) (old new : SourceState) → CountsAudit 4294967295 (Err fault) old new → CountsVerdict (Err (Log fault)) old new
counts_unjudged log.Read old new c =
    record { pass = tt; endless = (λ is. cc); pulls = c.pulls; empty_pulls = c.empty_pulls; reads = c.failures }
counts_unjudged log.Endless old new c =
    record { pass = tt; endless = (λ is. c.uses); pulls = c.pulls; empty_pulls = c.empty_pulls; reads = c.failures }
counts_unjudged log.Memory old new c =
    record { pass = tt; endless = (λ is. cc); pulls = c.pulls; empty_pulls = c.empty_pulls; reads = c.failures }
