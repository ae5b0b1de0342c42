use Rattle.std.proofs.Common.{arith}
use Rattle.secs_item.specs.Item.{view}
use Rattle.secs_item.proofs.Prefixes.{text_measured, text_built}
use Rattle.secs_item.proofs.decode.build_text.Goals as goal

pub build_item-requires-clause-measured : goal.build_item-requires-clause-measured
build_item-requires-clause-measured c = text_measured c.args.depth c.args.octets.now c.requires.some c.requires.measured

pub returns-clause-ok : goal.returns-clause-ok
returns-clause-ok c =
    let text = c.requires.measured in
    (text_built c.args.depth c.args.octets.now (view c.in_ok-item.item) c.in_ok-item.field-0-1 text.0 (λ i. omega (arith, c.type_inv.octets i)) c.requires.some c.in_ok-item.ensures text.1).1

pub returns-clause-only : goal.returns-clause-only
returns-clause-only c = λ text h.
    (text_built c.args.depth c.args.octets.now (view c.in_ok-item.item) c.in_ok-item.field-0-1 text (λ i. omega (arith, c.type_inv.octets i)) c.requires.some c.in_ok-item.ensures h).0
