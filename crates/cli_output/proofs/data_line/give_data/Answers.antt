use Rattle.std.proofs.Common.{◌++◌, ◌∷◌, [], codes, decimal, refl, inl, inr, if◌then◌else◌}
use Rattle.hex.specs.Hex.{encode_lower}
use Rattle.secs_text.specs.Printed.{printed}
use Rattle.hsms_frame.specs.Header.{stream_of, function_of, wait_of}
use Rattle.cli_output.specs.Line.{address_of, readable_line, unreadable_line}
use Rattle.cli_output.proofs.LinePremises.{appends_same, appends_then, unreadable_is}
use Rattle.cli_output.proofs.data_line.give_data.Goals as goal

pub returns-in-Ok : goal.returns-in-Ok
returns-in-Ok g c =
    let Given = g.O.Output.Given in
    let h = c.args.header in
    let front = codes "data" ++ address_of h in
    let p = rw (c.stream.ensures, c.function.ensures, c.wait.ensures) at c.in-Ok.ensures.ok in
    let shown = printed (record { stream = stream_of h; function = function_of h; wait = wait_of h; item = p.0 }) in
    let one = appends_then (Given c.args.out.now) (Given c.give_front.new.out) (Given c.append_chunk.new.out) _ _ _ front (codes " ") c.give_front.ensures c.append_chunk.ensures in
    let two = appends_then (Given c.args.out.now) (Given c.append_chunk.new.out) (Given c.print_text.new.out) _ _ _ (front ++ codes " ") shown one p.2 in (
      readable_line h p.0,
      inl (p.0, p.1, refl),
      appends_then (Given c.args.out.now) (Given c.print_text.new.out) (Given c.append_chunk-in-Ok.new.out) _ _ _ (front ++ codes " " ++ shown) (10 ∷ []) two c.append_chunk-in-Ok.ensures,
    )

pub returns-in-Err : goal.returns-in-Err
returns-in-Err g c =
    let Given = g.O.Output.Given in
    let h = c.args.header in
    let front = codes "data" ++ address_of h in
    let name = codes "S" ++ decimal (stream_of h) ++ codes "F" ++ decimal (function_of h) ++ (if wait_of h then codes " W" else []) in
    let digits = encode_lower c.args.text.now in
    let known_input = rw (c.in-Err.ensures.nothing.0, c.in-Err.ensures.nothing.1, c.stream.ensures, c.function.ensures, c.wait.ensures) at c.give_unreadable.ensures in
    let one = appends_then (Given c.args.out.now) (Given c.give_front.new.out) (Given c.append_chunk.new.out) _ _ _ front (codes " ") c.give_front.ensures c.append_chunk.ensures in (
      unreadable_line (record { header = h; text = c.args.text.now }),
      inr ((λ item text. let is = c.in-Err.ensures.ok_where (item, text) in cc), refl),
      appends_same (Given c.args.out.now) (Given c.give_unreadable.new.out) _ _ _ _ (unreadable_is front name (codes " ! ") digits (10 ∷ []))
          (appends_then (Given c.args.out.now) (Given c.append_chunk.new.out) (Given c.give_unreadable.new.out) _ _ _ (front ++ codes " ") (name ++ codes " ! " ++ digits ++ 10 ∷ []) one known_input),
    )
