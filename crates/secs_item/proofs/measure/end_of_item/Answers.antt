use Rattle.std.proofs.Common.{◌∙◌, arith}
use Rattle.std.proofs.lemmas.Result.{err_from_is_err_and}
use Rattle.secs_item.proofs.Opened.{part_fails, part_is_whole, part_of_list}
use Rattle.secs_item.proofs.measure.end_of_item.Goals as goal

pub returns-in_err-part : goal.returns-in_err-part
returns-in_err-part c =
    let p = err_from_is_err_and c.from_residual.result c.from_residual.ensures.1 in
    rw (p.1, p.2) (part_fails 0 c.args.depth c.args.octets.now c.in_err-part.field-0.0 c.in_err-part.ensures.read)

pub returns-then-part-eq0 : goal.returns-then-part-eq0
returns-then-part-eq0 c = part_is_whole 0 c.args.depth c.args.octets.now c.in_ok-part.part c.in_ok-part.ensures.read (omega arith)

pub returns-then-from-le-USUAL_DEPTH : goal.returns-then-from-le-USUAL_DEPTH
returns-then-from-le-USUAL_DEPTH c =
    c.end_of_elements.ensures ∙ part_of_list 0 c.args.depth c.args.octets.now c.in_ok-part.part c.in_ok-part.ensures.read (omega arith) (c.in_ok-part.ensures.within.deep_enough (omega arith))

pub returns-else-from-le-USUAL_DEPTH : goal.returns-else-from-le-USUAL_DEPTH
returns-else-from-le-USUAL_DEPTH c =
    c.end_of_elements-else-from-le-USUAL_DEPTH.ensures ∙ part_of_list 0 c.args.depth c.args.octets.now c.in_ok-part.part c.in_ok-part.ensures.read (omega arith) (c.in_ok-part.ensures.within.deep_enough (omega arith))
