use Rattle.std.proofs.Common.{◌+◌, ◌∙◌, sym, arith}
use Rattle.secs_text.proofs.Numbers.{numeral_more, too_large, just}
use Rattle.secs_text.proofs.word.long_number.Goals as goal

pub returns-in_err-checked_mul : goal.returns-in_err-checked_mul
returns-in_err-checked_mul c =
    let w = c.args.numeral.now in
    let i = c.loop-digit.digit-index in
    let more = numeral_more w i c.requires c.loop-digit-test.true in
    c.from_residual.ensures ∙ sym (too_large 18446744073709551616 w (i + 1) (omega (arith, more, c.loop-digit.invariant.value, c.in_err-checked_mul.ensures)))

pub returns-in_err-number : goal.returns-in_err-number
returns-in_err-number c =
    let w = c.args.numeral.now in
    let i = c.loop-digit.digit-index in
    let more = numeral_more w i c.requires c.loop-digit-test.true in
    c.from_residual-in_err-number.ensures ∙ sym (too_large 18446744073709551616 w (i + 1) (omega (arith, more, c.loop-digit.invariant.value, c.in_err-number.ensures, c.in_ok-checked_mul.ensures)))

pub loop-digit-preserved : goal.loop-digit-preserved
loop-digit-preserved c =
    let w = c.args.numeral.now in
    let i = c.loop-digit.digit-index in
    let more = numeral_more w i c.requires c.loop-digit-test.true in
    record {
      value = omega (arith, more, c.loop-digit.invariant.value, c.in_ok-number.ensures, c.in_ok-checked_mul.ensures);
      fits = omega (arith, c.in_ok-number.ensures);
    }

pub returns : goal.returns
returns c =
    let w = c.args.numeral.now in
    sym (just 18446744073709551616 w c.loop-digit.digit-index c.loop-digit.number c.requires c.loop-digit-test.false c.loop-digit.invariant.value c.loop-digit.invariant.fits)
