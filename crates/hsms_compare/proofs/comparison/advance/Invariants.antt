use Rattle.std.proofs.Common.{◌≤◌, List, take}
use Rattle.hsms_machine.specs.declared.entry.Entry.{Entry}
use Rattle.hsms_compare.specs.InnerConversation.{numbered}
use Rattle.hsms_compare.specs.Merge.{IsMergeOf}
use Rattle.hsms_compare.proofs.comparison.advance.Given as goal

abbrev pub invariant-loop-i : goal.invariant-loop-i
invariant-loop-i l = record {
  since : l.fn.from ≤ l.i;
  merged : (other : List Entry) → IsMergeOf l.end l.fn.merge (numbered 0 (take l.fn.from l.fn.log)) (numbered 0 other)
      → IsMergeOf l.end l.merge (numbered 0 (take l.i l.fn.log)) (numbered 0 other);
}
