use Rattle.std.proofs.Common.{◌≡◌, drop}
use Rattle.explain_statistics.specs.FirstFailure.{failed_at}
use Rattle.explain_lines.specs.AnnotatedFailure.{either, first_why}
use Rattle.explain_statistics.proofs.failure_counts.Tally.count_notes.Given as goal

-- With the annotations that are left, the first failure is that of all of them.
abbrev pub invariant-loop-note : goal.invariant-loop-note
invariant-loop-note l =
    (either l.self.first (failed_at l.line (first_why (drop l.note-index l.notes))) ≡ either l.initial.self.first (failed_at l.line (first_why l.notes)))
    × (l.self.entries ≡ l.initial.self.entries)
