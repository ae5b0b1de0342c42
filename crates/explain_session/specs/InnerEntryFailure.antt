-- What only contracts of private functions use, besides the definitions of `EntryFailure`.
use Rattle.std.specs.Prelude.{◌≡◌, Option, Some, None}
use Rattle.hsms_log.specs.declared.verdict.Why.{Why}
use Rattle.hsms_log.specs.declared.verdict.Why.TheVariants.{Unreadable, Broken}
use Rattle.explain_session.specs.declared.repaired_session.Checked.{Checked}
use Rattle.explain_session.specs.declared.repaired_session.Checked.TheVariants as check_result
use Rattle.explain_lines.specs.declared.explained_line.Carried.{Carried}
use Rattle.explain_lines.specs.declared.explained_line.Carried.TheVariants as carried
use Rattle.explain_session.specs.RepairedSession.{CurrentState}
use Rattle.hsms_log.specs.Step.{entry_by}
use Rattle.explain_session.specs.EntryFailure.{FailsBy}

-- Why an entry with this check result fails.
abbrev pub why_of : Checked → Option Why
why_of (check_result.Lawful closed) = None
why_of (check_result.Broken failure) = Some (Broken failure.rule)

-- Holds if a line with this content fails for this reason, or is accepted by the repaired session.
abbrev pub LineFailsBy : CurrentState → Carried → CurrentState → Option Why → Type 0
LineFailsBy old (carried.Entry step text) new why = FailsBy old (entry_by step text.now) new why
LineFailsBy old carried.Nothing new why = (why ≡ None) × (new ≡ old)
LineFailsBy old (carried.Unreadable reasoned) new why = why ≡ Some Unreadable
