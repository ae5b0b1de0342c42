use Rattle.std.proofs.Common.{◌≡◌, bit_and, get_or, sym, ap, ◌∙◌, arith}
use Rattle.secs_item.specs.declared.measure_step.TheConstants.{MASKS}
use Rattle.secs_item.specs.InnerMeasure.{mask_for, short_format}
use Rattle.secs_item.proofs.Parts.{list_mask, list_read, masks_right, values_read}
use Rattle.secs_item.proofs.measure_step.quick_part.Goals as goal

pub returns-then-mask-lt-LIST-clause-read : goal.returns-then-mask-lt-LIST-clause-read
returns-then-mask-lt-LIST-clause-read c =
    let octets = c.args.octets.now in
    let first = get_or octets c.args.place 0 in
    let mask = get_or MASKS c.from.result 0 in
    let mask_is : mask ≡ mask_for (short_format first) = ap (λ k. get_or MASKS k 0) c.from.ensures ∙ masks_right first (omega (arith, c.type_inv.octets c.args.place)) in
    let number = c.from-length.result in
    let whole = ap (λ k. bit_and number k) (sym c.from-then-mask-lt-LIST.ensures) ∙ c.if-length-from-ne0.false in
    values_read c.args.depth c.args.place number mask octets (omega (arith, c.if-octets-body.false)) mask_is (omega (arith, c.if-mask-lt-LIST.true)) c.from-length.ensures whole (omega (arith, c.if-octets-end.false))

pub returns-clause-read : goal.returns-clause-read
returns-clause-read c =
    let octets = c.args.octets.now in
    let first = get_or octets c.args.place 0 in
    let is : get_or MASKS first 0 ≡ 8 = ap (λ k. get_or MASKS k 0) (sym c.from.ensures) ∙ omega (arith, c.if-mask-lt-LIST.false, c.if-mask-gt-LIST.false) in
    list_read c.args.depth c.args.place c.from-length.result octets (omega (arith, c.if-octets-body.false)) (list_mask first (omega (arith, c.type_inv.octets c.args.place)) is) c.from-length.ensures (omega (arith, c.if-depth-eq0.false))
