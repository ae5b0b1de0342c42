use Rattle.std.proofs.Common.{◌≡◌, true, false, sym, ◌∙◌}
use Rattle.secs_item.specs.Format.{is_list}
use Rattle.secs_item.proofs.Lengths.{header_measured, elements_measured}
use Rattle.secs_text.proofs.Blocks.{puts_then, puts_same}
use Rattle.secs_text.proofs.PrintingItems.{item_values, item_list, list_opening, values_by_body}
use Rattle.secs_text.proofs.printing.items.put_item.Goals as goal

pub unreachable-requires : goal.unreachable-requires
unreachable-requires g c =
    header_measured 0 c.args.depth c.args.octets.now c.in_default.field-0 (sym c.in_default.is ∙ c.read_header.ensures.read) c.requires.measured

pub put_elements-requires-clause-measured : goal.put_elements-requires-clause-measured
put_elements-requires-clause-measured g c =
    let h = c.in-Ok.header in
    let of_list : is_list h.format ≡ true = sym c.is_list.ensures ∙ c.if-is_list.true in
    elements_measured 0 c.args.depth c.args.octets.now h c.in-Ok.ensures.read of_list (c.in-Ok.ensures.list of_list) c.requires.measured

pub returns-then-is_list-clause-puts : goal.returns-then-is_list-clause-puts
returns-then-is_list-clause-puts g c = λ v n read.
    let h = c.in-Ok.header in
    let of_list : is_list h.format ≡ true = sym c.is_list.ensures ∙ c.if-is_list.true in
    let e = item_list c.args.depth c.args.octets.now v n h read c.in-Ok.ensures.read of_list (c.in-Ok.ensures.list of_list) in
    puts_same _ e.2 (puts_then (list_opening h of_list c.put_opening-at.ensures) (c.put_elements.ensures.puts e.0.0 e.0.1 e.1))

pub returns-clause-puts : goal.returns-clause-puts
returns-clause-puts g c = λ v n read.
    let h = c.in-Ok.header in
    let no_list : is_list h.format ≡ false = sym c.is_list.ensures ∙ c.if-is_list.false in
    puts_same _ (item_values c.args.depth c.args.octets.now v n h read c.in-Ok.ensures.read no_list (c.in-Ok.ensures.values no_list)) (values_by_body h c.args.octets.now (c.in-Ok.ensures.values no_list) c.put_item_of_values.ensures)
