use Rattle.std.proofs.Common.{arith}
use Rattle.cli_show.proofs.HexMessages.{after_ten}
use Rattle.cli_show.proofs.hex_message.header_and_text.Goals as goal

pub returns-clause-some : goal.returns-clause-some
returns-clause-some c =
    let a = c.in_ok-header.ensures.cases in
    after_ten c.args.max c.args.octets.now c.in_ok-header.header.now c.in_ok-header.text.now c.of.result a.0 a.1 a.2 (λ i. omega (arith, c.type_inv.octets i))
    (omega (arith, c.if-octets-max.false)) (omega (arith, c.ranges.max.fits)) c.of.ensures.fits c.of.ensures.encoded_bytes
