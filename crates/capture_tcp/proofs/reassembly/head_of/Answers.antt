use Rattle.std.proofs.Common.{sym, ◌∙◌, drop, arith}
use Rattle.capture_tcp.specs.Cells.{all_of}
use Rattle.capture_tcp.specs.Message.{message_size}
use Rattle.capture_tcp.specs.Reassembly.{in_piece}
use Rattle.capture_tcp.proofs.CompleteStreams.{next_kept, small}
use Rattle.capture_tcp.proofs.reassembly.head_of.Goals as goal

pub loop-index-preserved : goal.loop-index-preserved
loop-index-preserved c =
    next_kept c.loop-index.index c.loop-index.value c.from.result c.in-Some.cell (drop c.args.first (all_of c.args.cells.now)) (message_size (in_piece (drop c.args.first (all_of c.args.cells.now)))) c.loop-index-test.true
    (sym c.in-Some.is ∙ c.cell_after.ensures) (let is = c.in-Some-octet_of.is in let of = c.octet_of.ensures in let from = c.from.ensures in cc) c.loop-index.invariant.0 c.loop-index.invariant.2 (let from = c.from.ensures in omega (arith, from))

pub overflow_mul-value : goal.overflow_mul-value
overflow_mul-value c =
    let v = small c.loop-index.index c.loop-index.value c.loop-index-test.true c.loop-index.invariant.2 in
    omega (arith, v)

pub overflow_add-value : goal.overflow_add-value
overflow_add-value c =
    let v = small c.loop-index.index c.loop-index.value c.loop-index-test.true c.loop-index.invariant.2 in
    omega (arith, v, c.from.ensures, c.from.auto)
