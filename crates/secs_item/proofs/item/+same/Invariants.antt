use Rattle.secs_item.proofs.Equals.{IsComparing}
use Rattle.secs_item.proofs.item.+same.Given as goal

abbrev pub invariant-same_items-loop-i : goal.invariant-same_items-loop-i
invariant-same_items-loop-i l = IsComparing l.items l.others l.i
