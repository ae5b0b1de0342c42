-- Groups of similar failures, and how each failure is written.
use Rattle.std.specs.Prelude.{◌≡◌, ◌≤◌, ◌<◌, ◌-◌, ◌⊎◌, ℕ, nat_eq, List, [], ◌∷◌, length, Option, Some, None, MatchOption, if◌then◌else◌}
use Rattle.indexmap.specs.IndexMap.{IndexMap, get, index_map_len}
use Rattle.explain_statistics.specs.declared.failure_groups.Group.{Group}
use Rattle.explain_lines.specs.declared.phrases.Rest.{Rest}
use Rattle.explain_lines.specs.Counted.{counted}

-- A failure: its kind (`sort`), a number that similar failures have in common, and its line.
pub record Fault : Type 0 where
  pub sort : ℕ
  pub line : ℕ

abbrev pub fault_at : ℕ → ℕ → Fault
fault_at sort line = record { sort = sort; line = line }

-- The lines of the failures of a kind, newest first.
abbrev pub lines_of : ℕ → List Fault → List ℕ
lines_of sort [] = []
lines_of sort (fault ∷ faults) = if nat_eq fault.sort sort then fault.line ∷ lines_of sort faults else lines_of sort faults

-- The line of the first failure, which is the last of the list.
abbrev pub first_of : List ℕ → ℕ
first_of [] = 0
first_of (line ∷ []) = line
first_of (line ∷ other ∷ lines) = first_of (other ∷ lines)

-- The line of the last failure, which is the first of the list.
abbrev pub last_of : List ℕ → ℕ
last_of [] = 0
last_of (line ∷ lines) = line

-- Holds if this is the group of the failures with these lines, newest first, and there is at least one.
abbrev pub IsGroup : List ℕ → Group → Type 0
IsGroup [] group = ⊥
IsGroup (line ∷ lines) group =
    (group.count ≡ counted (length (line ∷ lines))) × (group.first ≡ first_of (line ∷ lines)) × (group.last ≡ last_of (line ∷ lines))

-- Holds if these are the groups of the failures, newest first. Each kind has its own group, except kinds that first
-- came when there were 256.
abbrev pub HasGroups : {S : Type 0} → List Fault → IndexMap ℕ Group S → Type 0
HasGroups faults groups =
    (sort : ℕ) → MatchOption (get nat_eq groups sort) (index_map_len groups < 256 → lines_of sort faults ≡ [])
    (λ group. IsGroup (lines_of sort faults) group)

-- Holds if the last of the failures with these lines is written in full, or refers to the line of the first. The first
-- three are written in full, as is any failure without a group of its own once there are 256 groups.
abbrev pub IsReported : ℕ → List ℕ → Option ℕ → Type 0
IsReported groups lines None = (length lines ≤ 3) ⊎ (256 ≤ groups)
IsReported groups lines (Some line) = (3 < length lines) × (line ≡ first_of lines)

-- Holds if `rest` describes the failures with these lines, more than three, that are not written in full: their number,
-- the line of the first failure and that of the last.
abbrev pub IsRest : List ℕ → Rest → Type 0
IsRest lines rest =
    (3 < length lines) × (rest.count ≡ counted (length lines) - 3) × (rest.line ≡ first_of lines) × (rest.last ≡ last_of lines)
