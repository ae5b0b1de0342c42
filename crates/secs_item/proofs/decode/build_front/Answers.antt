use Rattle.std.proofs.Common.{arith}
use Rattle.secs_item.specs.Item.{view}
use Rattle.secs_item.proofs.Prefixes.{front_measured, front_built, front_one}
use Rattle.secs_item.proofs.decode.build_front.Goals as goal

pub build_item-requires-clause-measured : goal.build_item-requires-clause-measured
build_item-requires-clause-measured c =
    let front = c.requires.measured in
    front_measured c.args.depth c.args.octets.now front.0 front.1 front.2

pub returns-clause-ok : goal.returns-clause-ok
returns-clause-ok c =
    front_built c.args.depth c.args.octets.now (view c.in_ok-item.item) c.in_ok-item.end (λ i. omega (arith, c.type_inv.octets i)) c.in_ok-item.ensures

pub returns-clause-only : goal.returns-clause-only
returns-clause-only c = λ v n is.
    front_one c.args.depth c.args.octets.now (view c.in_ok-item.item) v c.in_ok-item.end n
    (front_built c.args.depth c.args.octets.now (view c.in_ok-item.item) c.in_ok-item.end (λ i. omega (arith, c.type_inv.octets i)) c.in_ok-item.ensures) is
