-- An audit of a text that comes in chunks.
use Rattle.std.proofs.Common.{◌≡◌, ℕ, List, [], Some, subst}
use Rattle.std.specs.Prelude.{Option, MatchOption}
use Rattle.std.proofs.lemmas.List.{append-nil}
use Rattle.hsms_log.specs.declared.verdict.Verdict.{Verdict}
use Rattle.hsms_log.specs.declared.verdict.Verdict.TheVariants.{Pass, Fail}
use Rattle.hsms_log.specs.Verdict.{Fails, HasAuditVerdict}
use Rattle.hsms_log.specs.LineReader.{Reading, StateInvariant, FailsAs}

-- It is the verdict on the text itself.
pub fails_here : (text : List ℕ) (verdict : Verdict) → FailsAs text verdict → HasAuditVerdict text verdict
fails_here text (Pass summary) fails = absurd fails
fails_here text (Fail n why) fails =
    let P : List ℕ → Type 0 = λ l. Fails l n why in
    subst P (append-nil text) (fails [])

-- The verdict that was found.
pub found_audits : (found : Option Verdict) (verdict : Verdict) (reader : Reading) (text : List ℕ) → found ≡ Some verdict
    → MatchOption found (StateInvariant reader text) (λ verdict. FailsAs text verdict) → HasAuditVerdict text verdict
found_audits found verdict reader text is reception =
    let P : Option Verdict → Type 0 = λ o. MatchOption o (StateInvariant reader text) (λ v. FailsAs text v) in
    fails_here text verdict (subst P is reception)
