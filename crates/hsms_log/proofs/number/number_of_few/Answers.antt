use Rattle.std.proofs.Common.{◌<◌, ◌+◌, ◌-◌, ◌*◌, ◌^◌, ◌%◌, length, get_or, ap, ◌∙◌, arith, rules}
use Rattle.hsms_log.proofs.Numbers.{front_fits, front_more, digit_below}
use Rattle.hsms_log.proofs.number.number_of_few.Goals as goal

pub overflow_mul-number : goal.overflow_mul-number
overflow_mul-number c =
    let small = front_fits c.args.text.now c.loop-i.i (omega (arith, c.loop-i-test.true, c.requires)) c.loop-i.invariant.0 in
    omega (arith, small, c.loop-i.invariant.1)

pub overflow_add-number : goal.overflow_add-number
overflow_add-number c =
    let small = front_fits c.args.text.now c.loop-i.i (omega (arith, c.loop-i-test.true, c.requires)) c.loop-i.invariant.0 in
    omega (arith, small, c.loop-i.invariant.1, c.if-digit-gt9.false)

pub loop-i-preserved : goal.loop-i-preserved
loop-i-preserved c =
    let within : c.loop-i.i < length c.args.text.now = search rules in
    let value = (c.from-digit.result + (2 ^ 64 - 48)) % 2 ^ 64 in
    let digit = digit_below (get_or c.args.text.now c.loop-i.i 0) value ((c.type_inv.text c.loop-i.i).fits) (ap (λ n. (n + (2 ^ 64 - 48)) % 2 ^ 64) c.from-digit.ensures) c.if-digit-gt9.false in
    let both = front_more c.args.text.now c.loop-i.i c.loop-i.number within digit.0 c.loop-i.invariant.0 c.loop-i.invariant.1 in
    (both.0, ap (λ d. 10 * c.loop-i.number + d) digit.1 ∙ both.1)
