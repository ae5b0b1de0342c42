-- Why an entry fails, if it does.
use Rattle.std.proofs.Common.{◌≡◌, None, sym, ap, ◌∙◌, subst}
use Rattle.std.specs.Prelude.{Option}
use Rattle.hsms_machine.specs.declared.entry.Entry.{Entry}
use Rattle.hsms_log.specs.declared.verdict.Why.{Why}
use Rattle.explain_session.specs.declared.repaired_session.Opening.{Opening}
use Rattle.explain_session.specs.declared.repaired_session.Checked.{Checked}
use Rattle.explain_session.specs.declared.repaired_session.Checked.TheVariants as check_result
use Rattle.explain_session.specs.RepairedSession.{CurrentState, ProgressLeadsTo, ChecksAs}
use Rattle.explain_lines.specs.AnnotatedFailure.{either}
use Rattle.explain_session.specs.EntryFailure.{FailsBy}
use Rattle.explain_session.specs.InnerEntryFailure.{why_of}

-- A valid entry, for which no failure is annotated.
pub valid_entry : (old mid new : CurrentState) (entry : Entry) (closed : Option Opening) (what : Checked) (before after : Option Why)
    → what ≡ check_result.Lawful closed → ChecksAs old entry mid what → new ≡ mid → after ≡ either before (why_of what) → before ≡ None → FailsBy old entry new after
valid_entry old mid new entry closed what before after is gives_verdict same noted none =
    let J : Checked → Type 0 = λ j. ChecksAs old entry mid j in
    let facts = subst J is gives_verdict in
    let after_is : after ≡ None = noted ∙ ap (λ o. either o (why_of what)) none ∙ ap why_of is in
    let P : Option Why → Type 0 = λ w. FailsBy old entry new w in
    let C : CurrentState → Type 0 = λ s. ProgressLeadsTo old entry s in
    subst P (sym after_is) (facts.0, subst C (sym same) facts.1)
