-- The first failure among the annotations that are counted.
use Rattle.std.proofs.Common.{◌≡◌, ◌<◌, ◌+◌, ℕ, List, [], ◌∷◌, length, drop, get_or, Some, None, refl, sym, ap, ◌∙◌}
use Rattle.std.proofs.lemmas.List.{drop_more}
use Rattle.std.specs.Prelude.{Option}
use Rattle.hsms_log.specs.declared.verdict.Why.{Why}
use Rattle.explain_lines.specs.declared.annotation.Note.{Note}
use Rattle.explain_statistics.specs.declared.failure_counts.Failed.{Failed}
use Rattle.explain_statistics.specs.FirstFailure.{failed_at}
use Rattle.explain_lines.specs.AnnotatedFailure.{either, first_why}
use Rattle.explain_lines.proofs.AnnotatedFailures.{first_why-cons}

failed_either : (line : ℕ) (one other : Option Why) → failed_at line (either one other) ≡ either (failed_at line one) (failed_at line other)
failed_either line None other = refl
failed_either line (Some why) other = refl

either_assoc : (one two other : Option Failed) → either one (either two other) ≡ either (either one two) other
either_assoc None two other = refl
either_assoc (Some failed) two other = refl

-- The failures of one more annotation are counted.
pub note_counted : (notes : List Note) (k : ℕ) (d : Note) (line : ℕ) (now next all : Option Failed) (why : Option Why) → k < length notes
    → why ≡ first_why (get_or notes k d ∷ []) → either now (failed_at line (first_why (drop k notes))) ≡ all → next ≡ either now (failed_at line why)
    → either next (failed_at line (first_why (drop (k + 1) notes))) ≡ all
note_counted notes k d line now next all why lt why_is so_far next_is =
    let rest = first_why (drop (k + 1) notes) in
    let here : first_why (drop k notes) ≡ either why rest =
    ap first_why (drop_more notes k d lt) ∙ first_why-cons (get_or notes k d) (drop (k + 1) notes) ∙ ap (λ w. either w rest) (sym why_is) in
    ap (λ n. either n (failed_at line rest)) next_is ∙ sym (either_assoc now (failed_at line why) (failed_at line rest))
    ∙ ap (either now) (sym (failed_either line why rest)) ∙ ap (λ w. either now (failed_at line w)) (sym here) ∙ so_far
