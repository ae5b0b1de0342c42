use Rattle.std.proofs.Common.{◌≡◌, ◌++◌, take}
use Rattle.hsms_compare_repair.specs.Facts.{facts_from}
use Rattle.hsms_compare_repair.proofs.facts.push_known.Given as goal

abbrev pub invariant-loop-index : goal.invariant-loop-index
invariant-loop-index l = l.facts.items ≡ l.fn.facts.items ++ facts_from l.sent l.matching.skipped.items l.received 0 (take l.index l.matching.findings.items)
