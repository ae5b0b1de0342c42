use Rattle.std.proofs.Common.{◌≡◌, ◌++◌, drop}
use Rattle.hsms_compare_causes.specs.Counterparts.{indexes_from}
use Rattle.hsms_compare_causes.specs.InnerSearch.{is_wanted}
use Rattle.hsms_compare_causes.proofs.counterparts.indexes.Given as goal

abbrev pub invariant-loop-i : goal.invariant-loop-i
invariant-loop-i l =
    l.found.items ++ indexes_from (is_wanted l.wanted) l.i (drop l.i l.log) ≡ indexes_from (is_wanted l.wanted) 0 l.log
