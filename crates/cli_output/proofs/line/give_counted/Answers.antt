use Rattle.std.proofs.Common.{◌++◌, ◌∷◌, [], codes, decimal}
use Rattle.cli_output.specs.Line.{address_of, text_of}
use Rattle.cli_output.proofs.LinePremises.{appends_then}
use Rattle.cli_output.proofs.line.give_counted.Goals as goal

pub returns : goal.returns
returns g c =
    let Given = g.O.Output.Given in
    let front = c.args.name.now ++ address_of c.args.header in
    let number = codes " " ++ decimal c.args.number in
    let text = text_of c.args.text.now in
    let two = appends_then (Given c.args.out.now) (Given c.give_front.new.out) (Given c.give_number.new.out) _ _ _ front number c.give_front.ensures c.give_number.ensures in
    let three = appends_then (Given c.args.out.now) (Given c.give_number.new.out) (Given c.give_text.new.out) _ _ _ (front ++ number) text two c.give_text.ensures in
    appends_then (Given c.args.out.now) (Given c.give_text.new.out) (Given c.append_chunk.new.out) _ _ _ (front ++ number ++ text) (10 ∷ []) three c.append_chunk.ensures
