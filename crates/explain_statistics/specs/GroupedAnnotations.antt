-- The annotations of a line as they are written, given the earlier failures.
use Rattle.std.specs.Prelude.{◌≡◌, ◌⊎◌, ℕ, List, [], ◌∷◌, ◌++◌, Option, Some, None, sum_by}
use Rattle.explain_lines.specs.declared.annotation.Failing.{Failing}
use Rattle.explain_lines.specs.declared.annotation.Note.{Note}
use Rattle.explain_lines.specs.declared.annotation.Note.TheVariants.{Closes, Fails, FailsInGroup}
use Rattle.explain_lines.specs.declared.phrases.FailureGroup.{FailureGroup}
use Rattle.explain_statistics.specs.FailureGroups.{Fault, IsReported, fault_at, lines_of}
use Rattle.explain_lines.specs.Counted.{counted}

-- The failures so far, newest first, including those annotated at a line.
abbrev pub faults_with : ℕ → List Note → List Fault → List Fault
faults_with line [] faults = faults
faults_with line (Closes closing ∷ notes) faults = faults_with line notes faults
faults_with line (Fails failing ∷ notes) faults = faults_with line notes (fault_at failing.sort line ∷ faults)
faults_with line (FailsInGroup failure_group ∷ notes) faults = faults_with line notes faults

-- A failure that refers to this line.
abbrev pub group_of : Failing → ℕ → FailureGroup
group_of failing line =
    record { why = failing.why; line = line; times = 1; concerns = failing.concerns; repair_action = failing.repair_action }

-- A failure as it is written: in full, or with a reference to this line.
abbrev pub failure_by : Failing → Option ℕ → Note
failure_by failing None = Fails failing
failure_by failing (Some line) = FailsInGroup (group_of failing line)

-- Holds if an annotation of a line is written as `shown_line`, given the earlier failures and the number of groups: a
-- failure in full or with a reference to the line of the first similar one, any other annotation unchanged.
abbrev pub NoteIsReported : ℕ → ℕ → List Fault → Note → Note → Type 0
NoteIsReported groups line faults (Closes closing) shown_line = shown_line ≡ Closes closing
NoteIsReported groups line faults (Fails failing) shown_line =
    (like : Option ℕ) × IsReported groups (lines_of failing.sort (fault_at failing.sort line ∷ faults)) like × (shown_line ≡ failure_by failing like)
NoteIsReported groups line faults (FailsInGroup failure_group) shown_line = shown_line ≡ FailsInGroup failure_group

-- Holds if each annotation of a line is written in this way, in order.
abbrev pub EachIsReported : ℕ → ℕ → List Fault → List Note → List Note → Type 0
EachIsReported groups line faults [] shown_line = shown_line ≡ []
EachIsReported groups line faults (note ∷ notes) shown_line =
    (one : Note) × (rest : List Note) × NoteIsReported groups line faults note one
    × EachIsReported groups line (faults_with line (note ∷ []) faults) notes rest × (shown_line ≡ one ∷ rest)

-- Holds if all annotations are failures that refer to the same line and involve no open transaction.
abbrev pub AreLike : FailureGroup → List Note → Type 0
AreLike failure_group [] = Unit {0}
AreLike failure_group (Closes closing ∷ notes) = ⊥
AreLike failure_group (Fails failing ∷ notes) = ⊥
AreLike failure_group (FailsInGroup other ∷ notes) =
    (other.why ≡ failure_group.why) × (other.line ≡ failure_group.line) × (other.concerns ≡ None) × AreLike failure_group notes

-- The number of failures that an annotation counts by reference to a line.
abbrev pub times_of : Note → ℕ
times_of (Closes closing) = 0
times_of (Fails failing) = 0
times_of (FailsInGroup failure_group) = failure_group.times

-- Holds if the annotation represents these: itself, or failures that refer to the same line, with their number. The
-- line of an open transaction is kept: such failures involve none.
abbrev pub Represents : Note → List Note → Type 0
Represents note notes =
    (notes ≡ note ∷ [])
    ⊎ ((failure_group : FailureGroup) × (note ≡ FailsInGroup failure_group) × AreLike failure_group notes × (failure_group.times ≡ counted (sum_by times_of notes)))

-- Holds if the annotations represent these, in order.
abbrev pub RepresentAll : List Note → List Note → Type 0
RepresentAll [] each = each ≡ []
RepresentAll (note ∷ notes) each = (run : List Note) × (rest : List Note) × Represents note run × RepresentAll notes rest × (each ≡ run ++ rest)

-- Holds if the annotations of a line are written in this way, given the earlier failures and the number of groups.
abbrev pub AreGrouped : ℕ → ℕ → List Fault → List Note → List Note → Type 0
AreGrouped groups line faults notes shown_line = (each : List Note) × EachIsReported groups line faults notes each × RepresentAll shown_line each
