use Rattle.std.proofs.Common.{arith}
use Rattle.secs_text.proofs.HexDigits.{product_fits, sum_fits, octet_right, no_octet}
use Rattle.secs_text.proofs.word.octet_of_digits.Goals as goal

pub overflow_mul-number : goal.overflow_mul-number
overflow_mul-number c = product_fits c.args.high (omega arith)

pub overflow_add-number : goal.overflow_add-number
overflow_add-number c = sum_fits c.args.high c.args.low (omega arith) (omega arith)

pub returns : goal.returns
returns c = octet_right c.args.high c.args.low (omega arith) (omega arith) c.if-number-gt255.false

pub returns-then-number-gt255 : goal.returns-then-number-gt255
returns-then-number-gt255 c = no_octet c.args.high c.args.low (omega arith) (omega arith) c.if-number-gt255.true
