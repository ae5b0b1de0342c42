use Rattle.std.proofs.Common.{◌+◌, length}
use Rattle.hsms_compare_causes.specs.InnerGroups.{IsReached, remaining}
use Rattle.hsms_compare_causes.specs.InnerSearch.{is_wanted}
use Rattle.hsms_compare_causes.proofs.search.first_of_group.Given as goal

abbrev pub invariant-loop-at : goal.invariant-loop-at
invariant-loop-at l = IsReached (is_wanted l.wanted) l.group l.log (l.index + 1) l.at

abbrev pub decreases-loop-at : goal.decreases-loop-at
decreases-loop-at l = remaining (length l.log) l.at
