use Rattle.std.proofs.Common.{◌++◌, ◌∷◌, [], codes, decimal, if◌then◌else◌}
use Rattle.hex.specs.Hex.{encode_lower}
use Rattle.cli_output.proofs.LinePremises.{appends_then}
use Rattle.cli_output.proofs.data_line.give_unreadable.Goals as goal

pub returns : goal.returns
returns g c =
    let Given = g.O.Output.Given in
    let head = c.args.head in
    let name = codes "S" ++ decimal head.stream ++ codes "F" ++ decimal head.function ++ (if head.wait then codes " W" else []) in
    let digits = encode_lower c.args.text.now in
    let two = appends_then (Given c.args.out.now) (Given c.give_name.new.out) (Given c.append_chunk.new.out) _ _ _ name (codes " ! ") c.give_name.ensures c.append_chunk.ensures in
    let three = appends_then (Given c.args.out.now) (Given c.append_chunk.new.out) (Given c.give_hexadecimal.new.out) _ _ _ (name ++ codes " ! ") digits two c.give_hexadecimal.ensures in
    appends_then (Given c.args.out.now) (Given c.give_hexadecimal.new.out) (Given c.append_chunk-2.new.out) _ _ _ (name ++ codes " ! " ++ digits) (10 ∷ []) three c.append_chunk-2.ensures
