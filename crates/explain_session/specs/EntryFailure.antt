-- Why an entry or a line fails, and the session after it.
use Rattle.std.specs.Prelude.{Option, Some, None}
use Rattle.hsms_machine.specs.declared.entry.Entry.{Entry}
use Rattle.hsms_machine.specs.Run.{Broken as IsFirstBroken}
use Rattle.hsms_log.specs.declared.verdict.Why.{Why}
use Rattle.hsms_log.specs.declared.verdict.Why.TheVariants.{Unreadable, Broken}
use Rattle.explain_session.specs.RepairedSession.{CurrentState, ForEachProgress, ProgressLeadsTo}

-- Holds if the entry is valid and accepted, or if this is the first rule that it breaks.
abbrev pub FailsBy : CurrentState → Entry → CurrentState → Option Why → Type 0
FailsBy old entry new None = ForEachProgress old (λ settings log placed. IsFirstBroken settings log entry None) × ProgressLeadsTo old entry new
FailsBy old entry new (Some Unreadable) = ⊥
FailsBy old entry new (Some (Broken rule)) = ForEachProgress old (λ settings log placed. IsFirstBroken settings log entry (Some rule))
