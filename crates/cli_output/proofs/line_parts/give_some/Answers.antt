use Rattle.std.proofs.Common.{◌≡◌, [], ap, sym, ◌∙◌, length, arith}
use Rattle.std.proofs.lemmas.Bool.Decides.{nat_tests}
use Rattle.hex.specs.Hex.{encode_lower}
use Rattle.hsms_log.proofs.Parts.{empty_is, encode-nil}
use Rattle.cli_output.proofs.LinePremises.{appends_none, appends_same}
use Rattle.cli_output.proofs.line_parts.give_some.Goals as goal

pub returns-else-not-is_empty : goal.returns-else-not-is_empty
returns-else-not-is_empty g c =
    let Now = g.O.Output.Given c.args.out.now in
    let octets = c.args.octets.now in
    let none : length octets ≡ 0 = grind (arith, nat_tests, c.if-not-is_empty.false, c.is_empty.ensures) in
    appends_same Now Now _ _ [] (encode_lower octets) (sym encode-nil ∙ ap encode_lower (sym (empty_is octets none))) (appends_none Now c.args.block.now)
