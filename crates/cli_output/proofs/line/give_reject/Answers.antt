use Rattle.std.proofs.Common.{◌++◌, ◌∷◌, [], codes, decimal}
use Rattle.cli_output.specs.Line.{address_of, text_of}
use Rattle.cli_output.proofs.LinePremises.{appends_then}
use Rattle.cli_output.proofs.line.give_reject.Goals as goal

pub returns : goal.returns
returns g c =
    let Given = g.O.Output.Given in
    let h = c.args.header in
    let front = codes "reject" ++ address_of h in
    let first = codes " " ++ decimal h.byte2 in
    let second = codes " " ++ decimal h.byte3 in
    let text = text_of c.args.text.now in
    let Before = Given c.args.out.now in
    let one = appends_then Before (Given c.give_front.new.out) (Given c.give_number.new.out) _ _ _ front first c.give_front.ensures c.give_number.ensures in
    let two = appends_then Before (Given c.give_number.new.out) (Given c.give_number-2.new.out) _ _ _ (front ++ first) second one c.give_number-2.ensures in
    let three = appends_then Before (Given c.give_number-2.new.out) (Given c.give_text.new.out) _ _ _ (front ++ first ++ second) text two c.give_text.ensures in
    appends_then Before (Given c.give_text.new.out) (Given c.append_chunk.new.out) _ _ _ (front ++ first ++ second ++ text) (10 ∷ []) three c.append_chunk.ensures
