use Rattle.std.proofs.Common.{◌≡◌, ◌++◌, take}
use Rattle.hsms_compare_repair.specs.Facts.{unsents}
use Rattle.hsms_compare_repair.proofs.facts.push_unsent.Given as goal

abbrev pub invariant-loop-line : goal.invariant-loop-line
invariant-loop-line l = l.facts.items ≡ l.fn.facts.items ++ unsents (take l.line-index l.lines)
