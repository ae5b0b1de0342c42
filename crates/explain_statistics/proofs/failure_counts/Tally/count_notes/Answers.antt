use Rattle.std.proofs.Common.{◌∙◌, sym, ap}
use Rattle.explain_statistics.specs.declared.failure_counts.Tally.{Tally}
use Rattle.explain_statistics.specs.FirstFailure.{failed_at}
use Rattle.explain_lines.specs.AnnotatedFailure.{either}
use Rattle.explain_lines.proofs.AnnotatedFailures.{either_none}
use Rattle.explain_statistics.proofs.CountedFailures.{note_counted}
use Rattle.explain_statistics.proofs.failure_counts.Tally.count_notes.Goals.{in-Some+in_ok-count, in_default}
use Rattle.explain_statistics.proofs.failure_counts.Tally.count_notes.Goals as goal

pub loop-note-preserved : goal.loop-note-preserved
loop-note-preserved c =
    let inv = c.loop-note.invariant in
    let now = c.loop-note.self.first in
    let line = c.args.line in
    elim c.match-why.branch [
      | in-Some+in_ok-count w ↦ (
        note_counted c.args.notes.now c.loop-note.note-index _ line now c.match-why.self.first _ c.why.result c.loop-note-test.true c.why.ensures inv.0
            (ap (λ (t : Tally). t.first) w.self-is ∙ w.count.ensures.first ∙ ap (λ o. either now (failed_at line o)) (sym w.in-Some.is)),
        ap (λ (t : Tally). t.entries) w.self-is ∙ w.count.ensures.entries ∙ inv.1,
      )
      | in_default w ↦ (
        note_counted c.args.notes.now c.loop-note.note-index _ line now c.match-why.self.first _ c.why.result c.loop-note-test.true c.why.ensures inv.0
            (ap (λ (t : Tally). t.first) w.self-is ∙ sym (ap (λ o. either now (failed_at line o)) w.in_default.is ∙ either_none now)),
        ap (λ (t : Tally). t.entries) w.self-is ∙ inv.1,
      )
    ]
