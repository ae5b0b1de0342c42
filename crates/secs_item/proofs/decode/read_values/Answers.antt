use Rattle.std.proofs.Common.{◌/◌, ◌+◌, ℕ, length, take, drop, sym, ap, ◌∙◌}
use Rattle.secs_item.specs.Decoding.{each}
use Rattle.secs_item.proofs.Bodies.{pieces_go_on, pieces_to_read, pieces_done, all_left, piece_there, remains_after}
use Rattle.secs_item.proofs.decode.read_values.Goals as goal

pub loop-preserved : goal.loop-preserved
loop-preserved g c =
    let size = g.V.Value.codec.size in
    let count = length c.args.body.now / c.args.size in
    record {
      count = c.loop.invariant.count;
      left = remains_after size count c.loop.counter (length c.loop.rest.now) (length c.split_at.result.1.now) c.loop-test.true c.loop.invariant.left (ap (λ (n : ℕ). length c.split_at.result.1.now + n) (sym c.requires.size) ∙ c.split_at.ensures.back_len);
      parts = rw c.in_ok-push.ensures.items (pieces_go_on g.V.Value.codec.value_of size count c.loop.counter c.loop.values.items c.loop.rest.now c.split_at.result.0.now c.split_at.result.1.now c.from_octets.result (each g.V.Value.codec.value_of size c.args.body.now) c.loop-test.true (c.split_at.ensures.front ∙ ap (λ (n : ℕ). take n c.loop.rest.now) c.requires.size) (c.split_at.ensures.back ∙ ap (λ (n : ℕ). drop n c.loop.rest.now) c.requires.size) c.from_octets.ensures c.loop.invariant.parts);
    }

pub split_at-requires : goal.split_at-requires
split_at-requires g c =
    rw c.requires.size (piece_there g.V.Value.codec.size (length c.args.body.now / c.args.size) c.loop.counter (length c.loop.rest.now) c.loop-test.true c.loop.invariant.left)

pub loop-init : goal.loop-init
loop-init g c =
    let size = g.V.Value.codec.size in
    record {
      count = ap (λ (n : ℕ). length c.args.body.now / n) c.requires.size;
      left = all_left size c.args.size (length c.args.body.now) c.requires.size c.requires.some c.requires.whole;
      parts = pieces_to_read g.V.Value.codec.value_of size c.args.size c.in_ok-values.values.items c.args.body.now c.requires.size c.in_ok-values.ensures.items;
    }

pub returns : goal.returns
returns g c =
    let size = g.V.Value.codec.size in
    pieces_done g.V.Value.codec.value_of size (length c.args.body.now / c.args.size) c.loop.counter c.loop.values.items c.loop.rest.now (each g.V.Value.codec.value_of size c.args.body.now) c.loop-test.false c.loop.invariant.parts
