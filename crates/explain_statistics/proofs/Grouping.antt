-- How the annotations of a line are written.
use Rattle.std.proofs.Common.{◌≡◌, ◌≤◌, ◌+◌, ◌++◌, inl, inr, ℕ, Bool, true, false, List, [], ◌∷◌, Some, None, refl, sym, ap, ◌∙◌, subst, arith, append_assoc, length, nat_eq}
use Rattle.std.specs.Prelude.{Option, sum_by, if◌then◌else◌}
use Rattle.std.proofs.lemmas.List.{append-nil}
use Rattle.std.proofs.lemmas.List.Sums.{sum_by-append}
use Rattle.explain_lines.specs.declared.annotation.Failing.{Failing}
use Rattle.explain_lines.specs.declared.annotation.Note.{Note}
use Rattle.explain_lines.specs.declared.annotation.Note.TheVariants.{Closes, Fails, FailsInGroup}
use Rattle.explain_lines.specs.declared.phrases.FailureGroup.{FailureGroup}
use Rattle.explain_statistics.specs.FailureGroups.{Fault, IsReported, fault_at, lines_of}
use Rattle.explain_lines.specs.Counted.{counted}
use Rattle.explain_statistics.specs.GroupedAnnotations.{AreGrouped, AreLike, EachIsReported, NoteIsReported, RepresentAll, Represents, failure_by, faults_with, times_of}
use Rattle.explain_statistics.specs.InnerGroupedAnnotations.{Joins, PutsNote}
use Rattle.explain_lines.specs.AnnotatedFailure.{first_whole}

-- ---- annotations that represent others

represents_push : (shown_line each : List Note) (note : Note) → RepresentAll shown_line each → RepresentAll (shown_line ++ note ∷ []) (each ++ note ∷ [])
represents_push [] each note none =
    let P : List Note → Type 0 = λ l. RepresentAll (note ∷ []) (l ++ note ∷ []) in
    subst P (sym none) (note ∷ [], [], inl refl, refl, refl)
represents_push (first ∷ others) each note (run, rest, one, more, is) =
    (run, rest ++ note ∷ [], one, represents_push others rest note more, ap (λ l. l ++ note ∷ []) is ∙ append_assoc run rest (note ∷ []))

represents_joined : (shown_line each : List Note) (last note both : Note)
    → ((notes : List Note) → Represents last notes → Represents both (notes ++ note ∷ []))
    → RepresentAll (shown_line ++ last ∷ []) each → RepresentAll (shown_line ++ both ∷ []) (each ++ note ∷ [])
represents_joined [] each last note both joins (run, rest, one, none, is) =
    let all : each ≡ run = is ∙ ap (λ l. run ++ l) none ∙ append-nil run in
    (run ++ note ∷ [], [], joins run one, refl, ap (λ l. l ++ note ∷ []) all ∙ sym (append-nil (run ++ note ∷ [])))
represents_joined (first ∷ others) each last note both joins (run, rest, one, more, is) =
    (run, rest ++ note ∷ [], one, represents_joined others rest last note both joins more, ap (λ l. l ++ note ∷ []) is ∙ append_assoc run rest (note ∷ []))

pub puts_first : (old popped new : List Note) (note : Note) → old ≡ popped ++ [] → new ≡ popped ++ note ∷ [] → PutsNote old note new
puts_first old popped new note was is = record {
  consistent = λ each consistent.
      let P : List Note → Type 0 = λ l. RepresentAll l (each ++ note ∷ []) in
      let Q : List Note → Type 0 = λ l. RepresentAll l each in
      subst P (sym is) (represents_push popped each note (subst Q (was ∙ append-nil popped) consistent));
}

pub puts_joined : (old popped new : List Note) (last note both : Note) → Joins last note both → old ≡ popped ++ last ∷ []
    → new ≡ popped ++ both ∷ [] → PutsNote old note new
puts_joined old popped new last note both joins was is = record {
  consistent = λ each consistent.
      let P : List Note → Type 0 = λ l. RepresentAll l (each ++ note ∷ []) in
      let Q : List Note → Type 0 = λ l. RepresentAll l each in
      subst P (sym is) (represents_joined popped each last note both joins.consistent (subst Q was consistent));
}

pub puts_apart : (old popped mid new : List Note) (last note : Note) → old ≡ popped ++ last ∷ [] → mid ≡ popped ++ last ∷ [] → new ≡ mid ++ note ∷ []
    → PutsNote old note new
puts_apart old popped mid new last note was then_is is = record {
  consistent = λ each consistent.
      let P : List Note → Type 0 = λ l. RepresentAll l (each ++ note ∷ []) in
      let Q : List Note → Type 0 = λ l. RepresentAll l each in
      subst P (sym is) (represents_push mid each note (subst Q (was ∙ sym then_is) consistent));
}

-- ---- failures that refer to the same line

like_same : (failure_group both : FailureGroup) (notes : List Note) → failure_group.why ≡ both.why → failure_group.line ≡ both.line → AreLike failure_group notes → AreLike both notes
like_same failure_group both [] why line like = tt
like_same failure_group both (Closes closing ∷ notes) why line like = absurd like
like_same failure_group both (Fails failing ∷ notes) why line like = absurd like
like_same failure_group both (FailsInGroup other ∷ notes) why line (same_why, same_line, involves, like) =
    (same_why ∙ why, same_line ∙ line, involves, like_same failure_group both notes why line like)

like_push : (failure_group other : FailureGroup) (notes : List Note) → other.why ≡ failure_group.why → other.line ≡ failure_group.line → other.concerns ≡ None
    → AreLike failure_group notes
    → AreLike failure_group (notes ++ FailsInGroup other ∷ [])
like_push failure_group other [] why line none like = (why, line, none, tt)
like_push failure_group other (Closes closing ∷ notes) why line none like = absurd like
like_push failure_group other (Fails failing ∷ notes) why line none like = absurd like
like_push failure_group other (FailsInGroup one ∷ notes) why line none (same_why, same_line, involves, like) =
    (same_why, same_line, involves, like_push failure_group other notes why line none like)

times_more : (notes : List Note) (failure_group other both : FailureGroup) → failure_group.times ≡ counted (sum_by times_of notes) → both.times ≡ counted (failure_group.times + other.times)
    → both.times ≡ counted (sum_by times_of (notes ++ FailsInGroup other ∷ []))
times_more notes failure_group other both times is =
    let all : sum_by times_of (notes ++ FailsInGroup other ∷ []) ≡ sum_by times_of notes + (0 + other.times) = sum_by-append times_of notes (FailsInGroup other ∷ []) in
    omega (arith, all, times, is)

joins_like : (last note : Note) (failure_group other both : FailureGroup) → last ≡ FailsInGroup failure_group → note ≡ FailsInGroup other → other.why ≡ failure_group.why
    → other.line ≡ failure_group.line → failure_group.concerns ≡ None → other.concerns ≡ None → both.why ≡ failure_group.why → both.line ≡ failure_group.line
    → both.times ≡ counted (failure_group.times + other.times) → (notes : List Note) → Represents (FailsInGroup failure_group) notes → Represents (FailsInGroup both) (notes ++ FailsInGroup other ∷ [])
joins_like last note failure_group other both last_is note_is why line none none_too both_why both_line times notes (inl one) =
    let P : List Note → Type 0 = λ l. Represents (FailsInGroup both) (l ++ FailsInGroup other ∷ []) in
    let all : both.times ≡ counted (sum_by times_of (FailsInGroup failure_group ∷ FailsInGroup other ∷ [])) = omega (arith, times) in
    subst P (sym one) (inr (both, refl, (sym both_why, sym both_line, none, (why ∙ sym both_why, line ∙ sym both_line, none_too, tt)), all))
joins_like last note failure_group other both last_is note_is why line none none_too both_why both_line times notes (inr (same, is, like, so_far)) =
    let is_same : failure_group ≡ same = cc in
    let A : FailureGroup → Type 0 = λ a. AreLike a notes × (a.times ≡ counted (sum_by times_of notes)) in
    let (likes, sum_is) = subst A (sym is_same) (like, so_far) in
    let grown = like_push failure_group other notes why line none_too likes in
    inr (both, refl, like_same failure_group both (notes ++ FailsInGroup other ∷ []) (sym both_why) (sym both_line) grown, times_more notes failure_group other both sum_is times)

pub joins : (last note : Note) (failure_group other both : FailureGroup) → last ≡ FailsInGroup failure_group → note ≡ FailsInGroup other → other.why ≡ failure_group.why
    → other.line ≡ failure_group.line → failure_group.concerns ≡ None → other.concerns ≡ None → both.why ≡ failure_group.why → both.line ≡ failure_group.line
    → both.times ≡ counted (failure_group.times + other.times) → Joins last note (FailsInGroup both)
joins last note failure_group other both last_is note_is why line none none_too both_why both_line times = record {
  consistent = λ notes consistent.
      let L : Note → Type 0 = λ n. Represents n notes in
      let N : Note → Type 0 = λ n. Represents (FailsInGroup both) (notes ++ n ∷ []) in
      subst N (sym note_is) (joins_like last note failure_group other both last_is note_is why line none none_too both_why both_line times notes (subst L last_is consistent));
}

-- ---- each annotation by itself

faults_cons : (line : ℕ) (first : Note) (notes : List Note) (faults : List Fault) → faults_with line notes (faults_with line (first ∷ []) faults) ≡ faults_with line (first ∷ notes) faults
faults_cons line (Closes closing) notes faults = refl
faults_cons line (Fails failing) notes faults = refl
faults_cons line (FailsInGroup failure_group) notes faults = refl

faults_push : (line : ℕ) (notes : List Note) (note : Note) (faults : List Fault) → faults_with line (note ∷ []) (faults_with line notes faults) ≡ faults_with line (notes ++ note ∷ []) faults
faults_push line [] note faults = refl
faults_push line (first ∷ notes) note faults =
    let before = faults_with line (first ∷ []) faults in
    ap (faults_with line (note ∷ [])) (sym (faults_cons line first notes faults)) ∙ faults_push line notes note before ∙ faults_cons line first (notes ++ note ∷ []) faults

each_push : (groups line : ℕ) (faults : List Fault) (notes each : List Note) (note one : Note) → EachIsReported groups line faults notes each
    → NoteIsReported groups line (faults_with line notes faults) note one → EachIsReported groups line faults (notes ++ note ∷ []) (each ++ one ∷ [])
each_push groups line faults [] each note one none shown_line =
    let P : List Note → Type 0 = λ l. EachIsReported groups line faults (note ∷ []) (l ++ one ∷ []) in
    subst P (sym none) (one, [], shown_line, refl, refl)
each_push groups line faults (first ∷ notes) each note one (head, rest, head_reported, more, is) shown_line =
    let N : List Fault → Type 0 = λ f. NoteIsReported groups line f note one in
    let before = faults_with line (first ∷ []) faults in (
      head,
      rest ++ one ∷ [],
      head_reported,
      each_push groups line before notes rest note one more (subst N (sym (faults_cons line first notes faults)) shown_line),
      ap (λ l. l ++ one ∷ []) is,
    )

reported_wider : (groups more : ℕ) (lines : List ℕ) (like : Option ℕ) → groups ≤ more → IsReported groups lines like → IsReported more lines like
reported_wider groups more lines None wider (inl few) = inl few
reported_wider groups more lines None wider (inr many) = inr (omega (arith, many, wider))
reported_wider groups more lines (Some line) wider shown_line = shown_line

pub note_wider : (groups more line : ℕ) (faults : List Fault) (note one : Note) → groups ≤ more → NoteIsReported groups line faults note one → NoteIsReported more line faults note one
note_wider groups more line faults (Closes closing) one wider shown_line = shown_line
note_wider groups more line faults (Fails failing) one wider (like, shown_line, is) = (like, reported_wider groups more _ like wider shown_line, is)
note_wider groups more line faults (FailsInGroup failure_group) one wider shown_line = shown_line

each_wider : (groups more line : ℕ) (faults : List Fault) (notes each : List Note) → groups ≤ more → EachIsReported groups line faults notes each → EachIsReported more line faults notes each
each_wider groups more line faults [] each wider shown_line = shown_line
each_wider groups more line faults (note ∷ notes) each wider (one, rest, first, others, is) =
    (one, rest, note_wider groups more line faults note one wider first, each_wider groups more line (faults_with line (note ∷ []) faults) notes rest wider others, is)

-- One more annotation.
pub each_more : (groups more line : ℕ) (faults : List Fault) (notes all each : List Note) (note one : Note) → all ≡ notes ++ note ∷ [] → groups ≤ more
    → EachIsReported groups line faults notes each → NoteIsReported more line (faults_with line notes faults) note one → EachIsReported more line faults all (each ++ one ∷ [])
each_more groups more line faults notes all each note one is wider shown_line last =
    let P : List Note → Type 0 = λ l. EachIsReported more line faults l (each ++ one ∷ []) in
    subst P (sym is) (each_push more line faults notes each note one (each_wider groups more line faults notes each wider shown_line) last)

pub faults_more : (line : ℕ) (faults : List Fault) (notes all : List Note) (note : Note) → all ≡ notes ++ note ∷ []
    → faults_with line (note ∷ []) (faults_with line notes faults) ≡ faults_with line all faults
faults_more line faults notes all note is = faults_push line notes note faults ∙ ap (λ l. faults_with line l faults) (sym is)

-- ---- the first failure of all is written in full

one_line : (so : Bool) (line : ℕ) → length (if so then line ∷ [] else []) ≤ 1
one_line true line = omega arith
one_line false line = omega arith

first_like : (groups line : ℕ) (failing : Failing) (like : Option ℕ) (one : Note) → IsReported groups (lines_of failing.sort (fault_at failing.sort line ∷ [])) like
    → one ≡ failure_by failing like → one ≡ Fails failing
first_like groups line failing None one shown_line is = is
first_like groups line failing (Some other) one (many, like) is =
    let few = one_line (nat_eq failing.sort failing.sort) line in
    absurd (omega (arith, many, few))

first_each : (groups line : ℕ) (notes each : List Note) → EachIsReported groups line [] notes each → first_whole each ≡ first_whole notes
first_each groups line [] each none = ap first_whole none
first_each groups line (Closes closing ∷ notes) each (one, rest, shown_line, more, is) =
    ap first_whole is ∙ ap (λ n. first_whole (n ∷ rest)) shown_line ∙ first_each groups line notes rest more
first_each groups line (Fails failing ∷ notes) each (one, rest, (like, shown_line, by), more, is) =
    ap first_whole is ∙ ap (λ n. first_whole (n ∷ rest)) (first_like groups line failing like one shown_line by)
first_each groups line (FailsInGroup failure_group ∷ notes) each (one, rest, shown_line, more, is) =
    ap first_whole is ∙ ap (λ n. first_whole (n ∷ rest)) shown_line ∙ first_each groups line notes rest more

none_whole : (failure_group : FailureGroup) (notes rest : List Note) → AreLike failure_group notes → first_whole (notes ++ rest) ≡ first_whole rest
none_whole failure_group [] rest like = refl
none_whole failure_group (Closes closing ∷ notes) rest like = absurd like
none_whole failure_group (Fails failing ∷ notes) rest like = absurd like
none_whole failure_group (FailsInGroup other ∷ notes) rest (same_why, same_line, involves, like) = none_whole failure_group notes rest like

whole_next : (note : Note) (one other : List Note) → first_whole one ≡ first_whole other → first_whole (note ∷ one) ≡ first_whole (note ∷ other)
whole_next (Closes closing) one other is = is
whole_next (Fails failing) one other is = refl
whole_next (FailsInGroup failure_group) one other is = is

first_run : (note : Note) (notes run rest : List Note) → Represents note run → first_whole notes ≡ first_whole rest → first_whole (note ∷ notes) ≡ first_whole (run ++ rest)
first_run note notes run rest (inl one) is =
    whole_next note notes rest is ∙ ap (λ l. first_whole (l ++ rest)) (sym one)
first_run note notes run rest (inr (failure_group, by, like, times)) is =
    ap (λ n. first_whole (n ∷ notes)) by ∙ is ∙ sym (none_whole failure_group run rest like)

first_represents : (shown_line each : List Note) → RepresentAll shown_line each → first_whole shown_line ≡ first_whole each
first_represents [] each none = sym (ap first_whole none)
first_represents (note ∷ notes) each (run, rest, one, more, is) = first_run note notes run rest one (first_represents notes rest more) ∙ sym (ap first_whole is)

pub first_grouped : (groups line : ℕ) (notes shown_line : List Note) → AreGrouped groups line [] notes shown_line → first_whole shown_line ≡ first_whole notes
first_grouped groups line notes shown_line (each, by_itself, stand) = first_represents shown_line each stand ∙ first_each groups line notes each by_itself
