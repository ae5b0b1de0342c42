use Rattle.std.proofs.Common.{arith}
use Rattle.hsms_ends.proofs.turns.deliver.Goals as goal

pub returns : goal.returns
returns g c = record {
  puts = c.put_out.ensures;
  ends = (c.put_out.ensures.whole, c.put_out.ensures.parted);
  counted = λ below. omega arith;
  in_range = c.entries_are_in_range.ensures;
}
