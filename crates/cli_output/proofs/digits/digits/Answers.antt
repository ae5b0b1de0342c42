use Rattle.std.proofs.Common.{arith}
use Rattle.cli_output.proofs.DigitTable.{digits_right}
use Rattle.cli_output.proofs.digits.digits.Goals as goal

pub returns : goal.returns
returns c = rw c.from.ensures (digits_right c.args.octet (omega arith))
