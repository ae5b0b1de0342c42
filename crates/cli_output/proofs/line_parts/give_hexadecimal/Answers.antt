use Rattle.std.proofs.Common.{◌++◌, [], append_assoc, refl, sym, ap, ◌∙◌}
use Rattle.hex.specs.Hex.{encode_lower}
use Rattle.hsms_log.proofs.Parts.{encode-append, encode-nil, halves}
use Rattle.cli_output.proofs.LinePremises.{appends_none, appends_same, appends_then}
use Rattle.cli_output.proofs.line_parts.give_hexadecimal.Goals as goal

pub loop-front-init : goal.loop-front-init
loop-front-init g c =
    let Now = g.O.Output.Given c.args.out.now in
    ([], refl, appends_same Now Now c.args.block.now c.args.block.now [] (encode_lower []) (sym encode-nil) (appends_none Now c.args.block.now))

pub loop-front-preserved : goal.loop-front-preserved
loop-front-preserved g c =
    let inv = c.loop-front.invariant in
    let Before = g.O.Output.Given c.args.out.now in
    let Now = g.O.Output.Given c.append_array.new.out in
    let front = c.in-Some.front.now in
    let others = c.in-Some.others.now in
    let cut = c.in-Some.ensures.cases in
    let split = halves 16 c.loop-front.rest.now front others cut.0 cut.1 in
    let appended_text = appends_same (g.O.Output.Given c.loop-front.out) Now _ _ c.digits_of_sixteen.result (encode_lower front) c.digits_of_sixteen.ensures c.append_array.ensures in (
      inv.0 ++ front,
      inv.1 ∙ ap (λ l. inv.0 ++ l) split ∙ sym (append_assoc inv.0 front others),
      appends_same Before Now _ _ (encode_lower inv.0 ++ encode_lower front) (encode_lower (inv.0 ++ front)) (sym (encode-append inv.0 front))
          (appends_then Before (g.O.Output.Given c.loop-front.out) Now _ _ _ (encode_lower inv.0) (encode_lower front) inv.2 appended_text),
    )

pub returns : goal.returns
returns g c =
    let inv = c.loop-front.invariant in
    let Before = g.O.Output.Given c.args.out.now in
    let Now = g.O.Output.Given c.give_few.new.out in
    let rest = c.loop-front.rest.now in
    appends_same Before Now _ _ (encode_lower inv.0 ++ encode_lower rest) (encode_lower c.args.octets.now)
    (sym (encode-append inv.0 rest) ∙ ap (λ l. encode_lower l) (sym inv.1))
    (appends_then Before (g.O.Output.Given c.loop-front.out) Now _ _ _ (encode_lower inv.0) (encode_lower rest) inv.2 c.give_few.ensures)
