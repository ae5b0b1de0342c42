use Rattle.hsms_compare_repair.proofs.Progress.{ContinuesAs}
use Rattle.hsms_compare_repair.proofs.matching.Matching.of.Given as goal

abbrev pub invariant-loop-message : goal.invariant-loop-message
invariant-loop-message l = ContinuesAs l.sent l.is_open l.received l.findings.items l.skipped.items l.unknown l.message-index
