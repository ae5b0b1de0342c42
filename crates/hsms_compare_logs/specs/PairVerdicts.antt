-- The verdict on a pair of logs.
use Rattle.std.specs.Prelude.{◌≡◌, ◌+◌, ◌==◌, ◌&&◌, ◌||◌, not, if◌then◌else◌, ℕ, Bool, true, false, List, Option, Some, None, nat_lt, count_by, length}
use Rattle.hsms_compare.specs.declared.line_contradiction.LineContradiction.{LineContradiction}
use Rattle.hsms_compare.specs.declared.line_contradiction.LineContradiction.TheVariants as by_lines
use Rattle.hsms_compare_repair.specs.declared.fact.Fact.{Fact}
use Rattle.hsms_compare_repair.specs.declared.fact.Fact.TheVariants as fact
use Rattle.hsms_compare_logs.specs.declared.comparing.LogComparison.{LogComparison}
use Rattle.hsms_compare_logs.specs.declared.pair_verdict.FactKind.{FactKind}
use Rattle.hsms_compare_logs.specs.declared.pair_verdict.FactKind.TheVariants.{Skipped, Swapped, Again, Differs, Unsent, Unfound, Order}
use Rattle.hsms_compare_logs.specs.declared.pair_verdict.PairVerdict.{PairVerdict}
use Rattle.hsms_compare_logs.specs.declared.pair_verdict.PairVerdict.TheVariants.{Agree, Disagree, Undecided}

abbrev pub is_some : {T : Type 0} → Option T → Bool
is_some None = false
is_some (Some x) = true

-- True if both logs have a connection, and their first ones are compared. If a log is of version 2, other connections
-- may be missing before it: the first ones are compared only if they do not contradict each other.
abbrev pub are_paired : LogComparison → Bool
are_paired c = is_some c.host.up && is_some c.equipment.up && (c.is_in_order || not (is_some c.contradiction))

-- ---- what is counted

abbrev pub is_of : FactKind → Fact → Bool
is_of Skipped (fact.Skipped k i) = true
is_of Swapped (fact.Swapped k i) = true
is_of Again (fact.Again i) = true
is_of Differs (fact.Differs k i) = true
is_of Unsent (fact.Unsent i) = true
is_of Unfound (fact.Unfound i) = true
is_of kind other = false

abbrev pub order_count : FactKind → Option LineContradiction → ℕ
order_count Order (Some (by_lines.Order a b c d)) = 1
order_count kind contradiction = 0

-- The number of facts of a kind that a pair has. An order counts if it is the first contradiction.
abbrev pub told : LogComparison → FactKind → ℕ
told c kind =
    if are_paired c
    then count_by (is_of kind) c.facts.to_equipment.items + count_by (is_of kind) c.facts.to_host.items + order_count kind c.contradiction
    else 0

-- The number of failed requests of both endpoints.
abbrev pub failed_count : LogComparison → ℕ
failed_count c = if are_paired c then length c.failures.of_host.items + length c.failures.of_equipment.items else 0

-- ---- the verdict

abbrev pub has : LogComparison → FactKind → Bool
has c kind = nat_lt 0 (told c kind)

abbrev pub contradicts : LogComparison → Bool
contradicts c = has c Skipped || (has c Swapped || (has c Again || (has c Differs || (has c Unsent || has c Order))))

-- True if each log has one connection, both are compared, and no part seems to be missing.
abbrev pub is_all : LogComparison → Bool
is_all c = are_paired c && (not c.host.is_followed && (not c.equipment.is_followed && (told c Unfound == 0)))

abbrev pub verdict_of : LogComparison → PairVerdict
verdict_of c = if contradicts c then Disagree else if is_all c then Agree else Undecided
