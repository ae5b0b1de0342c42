use Rattle.std.proofs.Common.{refl}
use Rattle.hex.specs.Hex.{encode_with}
use Rattle.cli_output.proofs.digits.address_and_end.Goals as goal

pub returns : goal.returns
unfolding encode_with
returns c = rw c.address.ensures refl
