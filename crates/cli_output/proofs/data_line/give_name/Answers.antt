use Rattle.std.proofs.Common.{◌++◌, [], codes, decimal, Bool, if◌then◌else◌, sym, ap, append-nil, ◌∙◌}
use Rattle.cli_output.proofs.LinePremises.{appends_same, appends_then}
use Rattle.cli_output.proofs.data_line.give_name.Goals as goal

pub returns-then-head : goal.returns-then-head
returns-then-head g c =
    let Given = g.O.Output.Given in
    let head = c.args.head in
    let two = appends_then (Given c.args.out.now) (Given c.append_chunk.new.out) (Given c.give_decimal.new.out) _ _ _ (codes "S") (decimal head.stream) c.append_chunk.ensures c.give_decimal.ensures in
    let three = appends_then (Given c.args.out.now) (Given c.give_decimal.new.out) (Given c.append_chunk-2.new.out) _ _ _ (codes "S" ++ decimal head.stream) (codes "F") two c.append_chunk-2.ensures in
    let name = codes "S" ++ decimal head.stream ++ codes "F" ++ decimal head.function in
    let four = appends_then (Given c.args.out.now) (Given c.append_chunk-2.new.out) (Given c.give_decimal-2.new.out) _ _ _ (codes "S" ++ decimal head.stream ++ codes "F") (decimal head.function) three c.give_decimal-2.ensures in
    appends_same (Given c.args.out.now) (Given c.append_chunk-then-head.new.out) _ _ _ _
    (ap (λ (wait : Bool). name ++ (if wait then codes " W" else [])) (sym c.if-head.true))
    (appends_then (Given c.args.out.now) (Given c.give_decimal-2.new.out) (Given c.append_chunk-then-head.new.out) _ _ _ name (codes " W") four c.append_chunk-then-head.ensures)

pub returns-else-head : goal.returns-else-head
returns-else-head g c =
    let Given = g.O.Output.Given in
    let head = c.args.head in
    let two = appends_then (Given c.args.out.now) (Given c.append_chunk.new.out) (Given c.give_decimal.new.out) _ _ _ (codes "S") (decimal head.stream) c.append_chunk.ensures c.give_decimal.ensures in
    let three = appends_then (Given c.args.out.now) (Given c.give_decimal.new.out) (Given c.append_chunk-2.new.out) _ _ _ (codes "S" ++ decimal head.stream) (codes "F") two c.append_chunk-2.ensures in
    let name = codes "S" ++ decimal head.stream ++ codes "F" ++ decimal head.function in
    appends_same (Given c.args.out.now) (Given c.give_decimal-2.new.out) _ _ _ _
    (sym (append-nil name) ∙ ap (λ (wait : Bool). name ++ (if wait then codes " W" else [])) (sym c.if-head.false))
    (appends_then (Given c.args.out.now) (Given c.append_chunk-2.new.out) (Given c.give_decimal-2.new.out) _ _ _ (codes "S" ++ decimal head.stream ++ codes "F") (decimal head.function) three c.give_decimal-2.ensures)
