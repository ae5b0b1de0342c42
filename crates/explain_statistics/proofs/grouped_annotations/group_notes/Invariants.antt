use Rattle.std.proofs.Common.{List, take}
use Rattle.indexmap.specs.IndexMap.{index_map_len}
use Rattle.explain_lines.specs.declared.annotation.Note.{Note}
use Rattle.explain_statistics.specs.FailureGroups.{Fault, HasGroups}
use Rattle.explain_statistics.specs.GroupedAnnotations.{EachIsReported, RepresentAll, faults_with}
use Rattle.explain_statistics.proofs.grouped_annotations.group_notes.Given as goal

-- The annotations so far are written, and their failures are counted.
abbrev pub invariant-loop-note : goal.invariant-loop-note
invariant-loop-note l =
    (each : List Note) × RepresentAll l.grouped.items each
    × ((faults : List Fault) → HasGroups faults l.fn.groups.items
    → HasGroups (faults_with l.line (take l.note-index l.notes) faults) l.groups.items
    × EachIsReported (index_map_len l.groups.items) l.line faults (take l.note-index l.notes) each)
