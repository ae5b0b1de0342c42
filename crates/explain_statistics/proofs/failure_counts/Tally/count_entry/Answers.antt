use Rattle.std.proofs.Common.{◌≡◌, ℕ, sym, subst}
use Rattle.hsms_machine.specs.Entry.{frame_entry}
use Rattle.hsms_log.specs.declared.step.What.{What}
use Rattle.explain_statistics.specs.EntryCounts.{with_entry, with_kind}
use Rattle.hsms_log.specs.Step.{entry_of_what}
use Rattle.explain_statistics.proofs.failure_counts.Tally.count_entry.Goals as goal

pub returns-in-Frame-clause-entries : goal.returns-in-Frame-clause-entries
returns-in-Frame-clause-entries c = λ time text.
    let old = c.args.self.now.entries in
    let new = c.count_frame.new.self.entries in
    let P : What → Type 0 = λ w. new ≡ with_entry old (entry_of_what time w text) in
    let entry = frame_entry time c.in-Frame.mark c.in-Frame.field-1 text in
    let S : ℕ → Type 0 = λ n. new ≡ with_kind (record old { entries = n }) entry in
    subst P (sym c.in-Frame.is) (subst S c.saturating_add-self.ensures (c.count_frame.ensures.entries time c.in-Frame.field-1 text))
