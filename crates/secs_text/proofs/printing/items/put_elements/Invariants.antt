use Rattle.std.proofs.Common.{◌≡◌, ◌≤◌, ◌-◌, ◌+◌, ◌*◌, ◌++◌, ℕ, Ok, length, drop, codes}
use Rattle.secs_item.specs.Item.{Elements}
use Rattle.secs_item.specs.InnerDecoding.{item_at, elements_by}
use Rattle.secs_text.specs.InnerBlockOutput.{IsPlace}
use Rattle.secs_text.specs.Printed.{printed_elements}
use Rattle.secs_text.proofs.PrintingItems.{Putting}
use Rattle.secs_text.proofs.printing.items.put_elements.Given as goal

abbrev pub invariant-loop-lists : goal.invariant-loop-lists
invariant-loop-lists g l = record {
  nested : l.lists ≤ l.depth;
  there : l.end ≤ length l.octets;
  row : length l.counts ≡ 100;
  place : IsPlace l.block l.at;
  putting : (es : Elements) (n : ℕ) → elements_by (item_at (l.depth - 1)) l.count (drop l.place l.octets) ≡ Ok (es, n)
      → Putting (g.O.Output.Given l.initial.out) l.initial.block l.from (g.O.Output.Given l.out) l.block l.at l.counts l.depth l.octets l.lists l.end (printed_elements es ++ codes ">");
}

abbrev pub decreases-loop-lists : goal.decreases-loop-lists
decreases-loop-lists g l = 2 * (length l.octets - l.end) + l.lists
