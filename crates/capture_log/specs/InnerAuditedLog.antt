-- What only contracts of private functions use, besides the definitions of `AuditedLog`.
use Rattle.std.specs.Prelude.{◌≡◌, ℕ, Bool, true, false, Option, None, Some, is_some, List, ◌++◌}
use Rattle.hsms_log.specs.declared.auditor.Auditor.{Auditor}
use Rattle.capture_log.specs.AuditedLog.{CurrentState, HasAudited}

-- ---- what is known of a log

-- a line of what the audit has heard fails
abbrev pub has_failed : Option Auditor → Bool
has_failed None = false
has_failed (Some auditor) = is_some auditor.found

abbrev pub failed_by : Option ℕ → Bool → ℕ → Option ℕ
failed_by (Some first) fails packet = Some first
failed_by None true packet = Some packet
failed_by None false packet = None

-- the audit hears these octets too; where a line of them is the first that fails, it is of the packet that was named last
pub record ProcessesInput (octets : List ℕ) (old new : CurrentState) : Type 0 where
  pub audited : (text : List ℕ) → HasAudited text old → HasAudited (text ++ octets) new
  pub packet : new.packet ≡ old.packet
  pub failed : new.failed ≡ failed_by old.failed (has_failed new.auditor) old.packet
