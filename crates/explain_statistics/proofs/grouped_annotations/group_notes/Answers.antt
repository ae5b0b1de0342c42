use Rattle.std.proofs.Common.{◌≡◌, ◌++◌, ◌∷◌, [], List, take, refl, sym, subst, arith}
use Rattle.std.proofs.lemmas.List.{take_all, take_more}
use Rattle.indexmap.specs.IndexMap.{index_map_len}
use Rattle.explain_lines.specs.declared.annotation.Note.{Note}
use Rattle.explain_statistics.specs.FailureGroups.{Fault, HasGroups}
use Rattle.explain_statistics.specs.GroupedAnnotations.{EachIsReported, RepresentAll, faults_with}
use Rattle.explain_statistics.proofs.Grouping.{each_more, faults_more, first_grouped}
use Rattle.explain_statistics.proofs.grouped_annotations.group_notes.Goals as goal

pub loop-note-init : goal.loop-note-init
loop-note-init c =
    let P : List Note → Type 0 = λ l. RepresentAll l [] in
    ([], subst P (sym c.clear.ensures.items) refl, λ faults has. (has, refl))

pub loop-note-preserved : goal.loop-note-preserved
loop-note-preserved c =
    let inv = c.loop-note.invariant in
    let shown_line = c.in_ok-shown_line.shown_line in
    let ensures = c.in_ok-shown_line.ensures in
    let notes = take c.loop-note.note-index c.args.notes.now in
    let more = take_more c.args.notes.now c.loop-note.note-index _ c.loop-note-test.true in (
      inv.0 ++ shown_line ∷ [],
      c.in_ok-put_note.ensures.consistent inv.0 inv.1,
      λ faults has.
          let before = inv.2 faults has in
          let H : List Fault → Type 0 = λ f. HasGroups f c.reported_note.new.groups.items in (
            subst H (faults_more c.args.line faults notes _ _ more) (ensures.groups _ before.0),
            each_more _ _ c.args.line faults notes _ inv.0 _ shown_line more ensures.more before.1 (ensures.shown_line _ before.0),
          ),
    )

pub returns-clause-groups : goal.returns-clause-groups
returns-clause-groups c = λ faults has.
    let H : List Note → Type 0 = λ l. HasGroups (faults_with c.args.line l faults) c.loop-note.groups.items in
    let all : take c.loop-note.note-index c.args.notes.now ≡ c.args.notes.now = take_all c.loop-note.note-index c.args.notes.now (omega (arith, c.loop-note-test.false)) in
    subst H all (c.loop-note.invariant.2 faults has).0

pub returns-clause-shown_line : goal.returns-clause-shown_line
returns-clause-shown_line c = λ faults has.
    let inv = c.loop-note.invariant in
    let E : List Note → Type 0 = λ l. EachIsReported (index_map_len c.loop-note.groups.items) c.args.line faults l inv.0 in
    let all : take c.loop-note.note-index c.args.notes.now ≡ c.args.notes.now = take_all c.loop-note.note-index c.args.notes.now (omega (arith, c.loop-note-test.false)) in
    (inv.0, subst E all (inv.2 faults has).1, inv.1)

pub returns-clause-first : goal.returns-clause-first
returns-clause-first c = λ has.
    let shown_line = returns-clause-shown_line c [] has in
    first_grouped _ c.args.line c.args.notes.now c.loop-note.grouped.items shown_line
