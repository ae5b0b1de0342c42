-- The audit of a text that is read from a source.
use Rattle.std.specs.Prelude.{◌≡◌, ◌++◌, ℕ, List, Option, Some, MatchOption}
use Rattle.hsms_log.specs.declared.auditor.Auditor.{Auditor}
use Rattle.hsms_log.specs.Auditor.{HasProcessed}

-- The state of an audit, and the number of bytes that it received.
pub record AuditState : Type 0 where
  pub auditor : Option Auditor
  pub taken : ℕ

-- Holds if the audit has received this text.
abbrev pub HasAudited : AuditState → List ℕ → Type 0
HasAudited state text = MatchOption state.auditor ⊥ (λ auditor. HasProcessed auditor text)

-- Holds if this text is read: the audit has received a part of it, and the source has left the rest.
abbrev pub ReadsText : List ℕ → AuditState → Option (List ℕ) → Type 0
ReadsText text state left =
    (done : List ℕ) × (rest : List ℕ) × (text ≡ done ++ rest) × (left ≡ Some rest) × HasAudited state done
