use Rattle.std.proofs.Common.{subst}
use Rattle.std.specs.Prelude.{IsTrue}
use Rattle.hsms_compare_causes.specs.declared.wanted.Wanted.{Wanted}
use Rattle.hsms_compare_causes.specs.InnerSearch.{is_wanted}
use Rattle.hsms_compare_causes.proofs.Groups.{closing_system, conclusion_system, reply_system}
use Rattle.hsms_compare_causes.proofs.wanted.Wanted.group.Goals as goal

pub returns-in-Closing : goal.returns-in-Closing
returns-in-Closing c = λ entry h.
    let P : Wanted → Type 0 = λ wanted. IsTrue (is_wanted wanted entry) in
    closing_system c.in-Closing.request entry.event (subst P c.in-Closing.is h)

pub returns-in-Conclusion : goal.returns-in-Conclusion
returns-in-Conclusion c = λ entry h.
    let P : Wanted → Type 0 = λ wanted. IsTrue (is_wanted wanted entry) in
    conclusion_system c.in-Conclusion.request entry.event (subst P c.in-Conclusion.is h)

pub returns-in-Reply : goal.returns-in-Reply
returns-in-Reply c = λ entry h.
    let P : Wanted → Type 0 = λ wanted. IsTrue (is_wanted wanted entry) in
    reply_system c.in-Reply.request entry.event (subst P c.in-Reply.is h)
