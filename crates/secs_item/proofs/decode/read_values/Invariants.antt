use Rattle.std.proofs.Common.{◌≡◌, ◌/◌, length, ◌++◌, ◌-◌, ◌*◌}
use Rattle.secs_item.specs.Decoding.{pieces, each}
use Rattle.secs_item.proofs.decode.read_values.Given as goal

abbrev pub invariant-loop : goal.invariant-loop
invariant-loop g l = record {
  count : l.count ≡ length l.body / g.V.Value.codec.size;
  left : length l.rest ≡ (l.count - l.counter) * g.V.Value.codec.size;
  parts : l.values.items ++ pieces g.V.Value.codec.value_of g.V.Value.codec.size (l.count - l.counter) l.rest ≡ each g.V.Value.codec.value_of g.V.Value.codec.size l.body;
}
