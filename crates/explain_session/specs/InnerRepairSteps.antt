-- What only contracts of private functions use, besides the definitions of `RepairSteps`.
use Rattle.std.specs.Prelude.{◌≡◌, ◌≤◌, ◌+◌, ◌*◌, ◌⊎◌, ℕ, List, [], Option, Some, None, map, reverse, length}
use Rattle.hsms_frame.specs.declared.header.Header.{Header}
use Rattle.hsms_machine.specs.declared.entry.Entry.{Entry}
use Rattle.explain_session.specs.declared.repaired_session.Checked.{Checked}
use Rattle.explain_lines.specs.declared.annotation.Note.{Note}
use Rattle.hsms_log.specs.declared.step.Step.{Step}
use Rattle.hsms_log.specs.declared.step.What.{What}
use Rattle.hsms_log.specs.declared.step.What.TheVariants.{Frame}
use Rattle.hsms_machine.specs.declared.entry.Mark.TheVariants.{Sent}
use Rattle.explain_session.specs.RepairedSession.{CurrentState, ChecksAs}
use Rattle.hsms_log.specs.Step.{entry_by}
use Rattle.explain_session.specs.RepairSteps.{next_after, recorded_with, left_of, recorded_of, Notes, LeadsBy}

-- ---- groups

-- Holds if an overdue reply is grouped by the primary that waits the longest; without one, by the failing event.
abbrev pub IsOverdue : Option (ℕ × Header) → What → What → Type 0
IsOverdue (Some (time, primary)) what subject = subject ≡ Frame Sent primary
IsOverdue None what subject = subject ≡ what

-- ---- the maximum number of checks

-- The maximum number of checks after a first failure, given the number of waiting primaries.
abbrev pub most_steps : ℕ → ℕ
most_steps waiting = waiting * 2 + 7

-- Holds if no entry is left, or if the maximum number of checks was made.
abbrev pub AreDone : ℕ → List Checked → List Entry → Type 0
AreDone most check_result left = (length check_result ≤ most) × ((left ≡ []) ⊎ (length check_result ≡ most))

-- Holds if the entries lead from one repaired session to another, by annotated checks, at most `most` of them.
abbrev pub LeadsOn : ℕ → CurrentState → List Entry → List Note → CurrentState → List Note → Type 0
LeadsOn most old entries before new after =
    (check_result : List Checked) × LeadsBy old check_result entries new × Notes before (recorded_of check_result entries) after
    × AreDone most check_result (left_of check_result entries)

-- Holds if the first of some entries is checked, and these are the entries to check next.
abbrev pub StepsOn : CurrentState → Entry → List Entry → List Note → CurrentState → List Entry → List Note → Type 0
StepsOn old entry more before new next after =
    (check_result : Checked) × ChecksAs old entry new check_result × Notes before (recorded_with check_result more []) after
    × (next ≡ next_after check_result entry more)

-- The entries of steps, the last one first.
abbrev pub entries_of : List ℕ → List Step → List Entry
entries_of text steps = map (λ step. entry_by step text) (reverse steps)
