use Rattle.std.proofs.Common.{arith}
use Rattle.cli_show.proofs.HexMessages.{after_four}
use Rattle.cli_show.proofs.hex_message.after_length_field.Goals as goal

pub returns-then-from_be_bytes-rest-clause-some : goal.returns-then-from_be_bytes-rest-clause-some
returns-then-from_be_bytes-rest-clause-some c =
    let a = c.in_ok-length.ensures.cases in
    after_four c.args.octets.now c.in_ok-length.length.now c.in_ok-length.rest.now c.from_be_bytes.result a.0 a.1 a.2 (λ i. omega (arith, c.type_inv.octets i))
    c.from_be_bytes.ensures (omega (arith, c.if-from_be_bytes-rest.true))
