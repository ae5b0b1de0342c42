use Rattle.std.proofs.Common.{◌++◌, ◌∷◌, []}
use Rattle.cli_output.specs.Line.{text_of}
use Rattle.cli_output.proofs.LinePremises.{appends_none, appends_then}
use Rattle.cli_output.proofs.line.give_bare_and_text.Goals as goal

pub returns : goal.returns
returns g c =
    let Given = g.O.Output.Given in
    let name = c.args.name.now in
    let address = c.args.address.now in
    let text = text_of c.args.text.now in
    let two = appends_then (Given c.args.out.now) (Given c.append_chunk.new.out) (Given c.append_chunk-2.new.out) _ _ _ name address c.append_chunk.ensures c.append_chunk-2.ensures in
    let none = appends_then (Given c.args.out.now) (Given c.append_chunk-2.new.out) (Given c.append_chunk-2.new.out) _ _ _ (name ++ address) [] two (appends_none (Given c.append_chunk-2.new.out) c.append_chunk-2.new.self) in
    let three = appends_then (Given c.args.out.now) (Given c.append_chunk-2.new.out) (Given c.give_text.new.out) _ _ _ (name ++ address ++ []) text none c.give_text.ensures in
    appends_then (Given c.args.out.now) (Given c.give_text.new.out) (Given c.append_chunk-3.new.out) _ _ _ (name ++ address ++ [] ++ text) (10 ∷ []) three c.append_chunk-3.ensures
