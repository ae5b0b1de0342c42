use Rattle.std.proofs.Common.{◌<◌, ◌≤◌, ℕ}
use Rattle.std.specs.Prelude.{IsTrue}
use Rattle.hsms_machine.specs.Entry.{entry_at}
use Rattle.hsms_compare_causes.specs.InnerSearch.{is_wanted}
use Rattle.hsms_compare_causes.proofs.search.first_from.Given as goal

abbrev pub invariant-loop-i : goal.invariant-loop-i
invariant-loop-i l = (p : ℕ) → l.start ≤ p → p < l.i → IsTrue (is_wanted l.wanted (entry_at l.log p)) → ⊥
