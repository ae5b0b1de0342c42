use Rattle.std.proofs.Common.{◌≡◌, ◌≤◌, ◌-◌, ◌+◌, ◌*◌, length, drop}
use Rattle.secs_item.specs.InnerMeasure.{end_from, end_of_open}
use Rattle.secs_item.specs.InnerDecoding.{item_at, elements_by}
use Rattle.secs_item.proofs.measure.end_of_elements.Given as goal

abbrev pub invariant-loop-left : goal.invariant-loop-left
invariant-loop-left g l = record {
  nested : l.inside + 1 ≤ l.depth;
  within : l.end ≤ length l.octets;
  row : length l.counts ≡ g.row.N;
  rest : end_of_open l.counts l.depth l.octets l.inside l.left l.end ≡ end_from l.place (elements_by (item_at (l.depth - 1)) l.count (drop l.place l.octets));
}

abbrev pub decreases-loop-left : goal.decreases-loop-left
decreases-loop-left g l = 2 * (length l.octets - l.end) + (l.depth - l.inside)
